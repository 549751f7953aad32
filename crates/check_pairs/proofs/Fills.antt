-- Both rows once every block has taken its place.
-- Assumes nothing.
use mathlib.Core.Path.{◌≡◌, sym}
use mathlib.Core.Bool.{true}
use mathlib.Core.List.{List}
use Prim.Native.Nat.{ℕ}
use Rattle.rules.specs.declared.Params.{Params}
use Rattle.rules.specs.Start.{names_full, names_open}
use Rattle.check_pairs.specs.Rows.{Filled, Row}
use Rattle.check_pairs.proofs.Pairs.{pairs_pass}

module _ (p : Params) (chip : List ℕ) (r : ℕ) (full part : List ℕ) where
  pub filled_all : (n : ℕ) → n ≡ p.N → Row p (names_full p chip r) n full → Row p (names_open p chip r) n part → Filled p chip r true full part
  filled_all n e a b =
      let f : Row p (names_full p chip r) p.N full = rw e at a in
      let o : Row p (names_open p chip r) p.N part = rw e at b in
      record { said = sym (pairs_pass p chip r f.once o.once); full_row = λ t. f; open_row = λ t. o }
