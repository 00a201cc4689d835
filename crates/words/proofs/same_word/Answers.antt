-- `words::same_word` meets its contract. Assumes nothing.
use native.Mathlib.Omega.{arith}
use Prim.Native.Nat.{◌≤◌}
use lib.ListN.{length, drop, length-drop}
use Rattle.words.proofs.Packed.{packed_agree, bytes_from}
use Rattle.words.proofs.same_word.Goals as goal

pub returns : goal.returns
returns c =
    let a = c.args in
    let v = c.word_at.ensures in
    let w = c.word_at-2.ensures in
    let x = drop a.at a.s.now in
    let y = drop a.from a.t.now in
    let n : 8 ≤ length x = omega (arith, length-drop a.at a.s.now) in
    let m : 8 ≤ length y = omega (arith, length-drop a.from a.t.now) in
    rw (v.0, w.0) (packed_agree 8 x y n m (bytes_from a.s.now a.at v.1) (bytes_from a.t.now a.from w.1))
