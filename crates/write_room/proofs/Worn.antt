-- The wear after a run of operations, which only an erase changes; and the length of a mapped list.
-- Assumes nothing.
use mathlib.Core.Path.{◌≡◌, refl, ap, ◌∙◌}
use mathlib.Core.List.{List, [], ◌∷◌, ◌++◌, map}
use Prim.Native.Nat.{ℕ, zero, suc}
use lib.ListN.{length}
use Rattle.lists.specs.Below.{join_below}
use Rattle.rules.specs.declared.Params.{Params}
use Rattle.rules.specs.Traces.{Op, replay_wear, on_wear, frame_ops, frames_ops}

pub wear_append : (wear : List ℕ) (xs ys : List Op) → replay_wear wear (xs ++ ys) ≡ replay_wear (replay_wear wear xs) ys
unfolding replay_wear
wear_append wear [] ys = refl
wear_append wear (o ∷ xs) ys = wear_append (on_wear wear o) xs ys

pub frame_wear : (p : Params) (n f : ℕ) (x : List ℕ) (wear : List ℕ) (k : ℕ) → replay_wear wear (frame_ops p n f x k) ≡ wear
unfolding frame_ops join_below replay_wear on_wear
frame_wear p n f x wear zero = refl
frame_wear p n f x wear (suc k) = wear_append wear (frame_ops p n f x k) _ ∙ frame_wear p n f x wear k

pub frames_wear : (p : Params) (n to : ℕ) (xs : List (List ℕ)) (wear : List ℕ) → replay_wear wear (frames_ops p n to xs) ≡ wear
unfolding frames_ops replay_wear
frames_wear p n to [] wear = refl
frames_wear p n to (x ∷ xs) wear = wear_append wear (frame_ops p n to x p.alpha) _ ∙ rw (frame_wear p n to x wear p.alpha) (frames_wear p n (suc to) xs wear)

pub map_length : (g : ℕ → List ℕ) (xs : List ℕ) → length (map g xs) ≡ length xs
map_length g [] = refl
map_length g (x ∷ xs) = ap suc (map_length g xs)
