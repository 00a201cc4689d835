-- Our test of each entry is the library's, which an iterator's `all` answers. Assumes nothing.
use mathlib.Core.Path.{◌≡◌, refl, ap}
use mathlib.Core.Bool.{Bool, ◌&&◌}
use mathlib.Core.List.{List, [], ◌∷◌}
use Rattle.std.specs.List.{list_all}
use Rattle.integers.specs.Lists.{every}

pub list_all_every : {A : Type 0} (g : A → Bool) (xs : List A) → list_all g xs ≡ every g xs
list_all_every g [] = refl
list_all_every g (x ∷ xs) = ap (λ (b : Bool). g x && b) (list_all_every g xs)
