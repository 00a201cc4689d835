-- Samples held to 16 bits. Assumes nothing.
use mathlib.Core.Path.{◌≡◌, refl}
use mathlib.Core.Bool.{Bool, true, false, cond, ◌&&◌}
use mathlib.Core.List.{List, [], ◌∷◌, map}
use Prim.Native.Nat.{ℕ}
use lib.Dec.{leb}
use Rattle.integers.specs.Lists.{every}
use Rattle.integers.proofs.Tests.{both_true}
use Rattle.coder.specs.Entries.{is_sample}
use Rattle.cutter_text.specs.Rows.{held_to}

-- what is held to 16 bits is a picture just if the picture is, and then it is the same
pub same_samples : (l : List ℕ) → every is_sample (map held_to l) ≡ every is_sample l
same_samples [] = refl
same_samples (v ∷ vs) = one v (every is_sample (map held_to vs)) (every is_sample vs) (same_samples vs) (leb v 4095) refl
  where
    one : (v : ℕ) (a b : Bool) → a ≡ b → (t : Bool) → leb v 4095 ≡ t → (is_sample (held_to v) && a) ≡ (is_sample v && b)
    one v a b h true e = rw (e, e) h
    one v a b h false e = rw e refl

pub held_same : (l : List ℕ) → every is_sample l ≡ true → map held_to l ≡ l
held_same [] e = refl
held_same (v ∷ vs) e =
    let b = both_true (is_sample v) (every is_sample vs) e in
    let s = held_same vs b.1 in
    λ i. cond (b.0 i) v 4096 ∷ s i
