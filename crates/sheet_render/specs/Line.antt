-- The line of an entry, where its value is not zero. Assumes nothing.
use Rattle.std.specs.Prelude.{cond, List, [], ℕ, ℤ}
use Rattle.text.specs.Write.{five_text}
use Rattle.places.specs.declared.walk.Walk.{Walk}
use Rattle.integers.specs.Zero.{is_zero}

-- The line of the present entry of a walk, where its value is not zero.
abbrev pub line_of : Walk → ℤ → List ℕ
line_of k v = cond (is_zero v) [] (five_text k.level k.band k.row k.col v)
