-- The checks of the steps, by what the tests find. Assumes nothing.
use mathlib.Core.Path.{◌≡◌}
use mathlib.Core.Bool.{Bool, true, false}
use mathlib.Core.List.{List}
use Prim.Native.Nat.{ℕ, ◌<◌, ◌≤◌}
use native.Mathlib.Omega.{arith}
use borrow.Author.Tests.{lt-ltb, le-ltb, le-leb, lt-leb}
use lib.Dec.{leb}
use lib.ListN.{length}
use Rattle.integers.specs.Lists.{every}
use Rattle.terms.specs.Terms.{rises}
use Rattle.calibration.specs.Card.{are_steps}

module _ (l : List ℕ) where
  pub no_steps : length l ≡ 0 → false ≡ are_steps l
  no_steps e = simp (le-ltb 0 (length l) (omega arith))

  pub too_many : 4 < length l → false ≡ are_steps l
  too_many h = simp (lt-ltb 0 (length l) (omega arith), lt-leb (length l) 4 h)

  module _ (some : 0 < length l) (few : length l ≤ 4) where
    pub not-rising : rises l ≡ false → false ≡ are_steps l
    not-rising e = simp (lt-ltb 0 (length l) some, le-leb (length l) 4 few, e)

    pub rising : {b : Bool} → rises l ≡ true → b ≡ every (λ s. leb s 4095) l → b ≡ are_steps l
    rising {b} e f = simp (lt-ltb 0 (length l) some, le-leb (length l) 4 few, e) f
