-- The fields of a line are the parts of it that the tabs cut.
-- Assumes nothing.
use Rattle.std.specs.Prelude.{◌≡◌, ℕ, Bool, true, false, cond, List, [], ◌∷◌, eqb, Option, None, Some}
use Rattle.std.specs.List.{onto_first, slice_get, slice_split}
use Rattle.std.specs.Option.{option_map, unwrap_or}
use Rattle.std.proofs.lemmas.Option.{unwrap_or-slice_get}
use mathlib.Core.Path.{refl, ◌∙◌}
use denote.Bor.{Bor}
use Rattle.demo_lines.specs.Grammar.{field_at, fields, first_field, later_fields}

onto : (t : Bool) (b : ℕ) (l : List ℕ)
    → cond t ([] ∷ fields l) (onto_first b (fields l)) ≡ cond t [] (b ∷ first_field l) ∷ cond t (first_field l ∷ later_fields l) (later_fields l)
unfolding fields
onto true b l = refl
onto false b l = refl

pub fields_split : (l : List ℕ) → slice_split (λ b. eqb b 9) l ≡ fields l
unfolding fields first_field later_fields
fields_split [] = refl
fields_split (b ∷ l) = rw (fields_split l) (onto (eqb b 9) b l)

-- the part that is found, or nothing
or_nothing : (r : Option (Bor (List ℕ))) (e : Bor (List ℕ)) → e.now ≡ [] → (unwrap_or r e).now ≡ unwrap_or (option_map (λ x. x.now) r) []
or_nothing None e h = h
or_nothing (Some x) e h = refl

pub field_found : (l : List ℕ) (n : ℕ) (r : Option (Bor (List ℕ))) (e : Bor (List ℕ)) → e.now ≡ []
    → option_map (λ x. x.now) r ≡ slice_get (slice_split (λ b. eqb b 9) l) n → (unwrap_or r e).now ≡ field_at l n
unfolding field_at
field_found l n r e h k = or_nothing r e h ∙ rw (k, fields_split l) (unwrap_or-slice_get (fields l) n [])
