-- `smoothing::mix_run` meets its contract. Assumes nothing.
use mathlib.Core.Path.{◌≡◌, sym, ap, ◌∙◌}
use Prim.Native.Nat.{ℕ, ◌+◌, ◌<◌}
use native.Mathlib.Nat.{add-zero}
use native.Mathlib.Omega.{arith}
use lib.IntN.{pos}
use lib.ListN.{length, get_or}
use mir.Syntax.{w64}
use mir.Val.{to_z, of_z}
use Rattle.integers.specs.Lists.{half}
use Rattle.integers.proofs.Half.{half_store}
use Rattle.integers.proofs.Bound.{read}
use Rattle.integers.proofs.Signs.{kept}
use Rattle.smoothing.specs.Mixed.{mixed_entry}
use Rattle.smoothing.proofs.Cells.{entry_small}
use Rattle.smoothing.proofs.mix_run.Goals as goal

pub loop-i-init : goal.loop-i-init
loop-i-init c = λ new old m n l e. e ∙ ap (half new old) (sym (add-zero c.args.first))

pub mixed_entry-requires : goal.mixed_entry-requires
mixed_entry-requires c =
    let place : (c.args.first + c.loop-i.i) < length c.args.out.now = omega (arith, c.requires.count_in_bounds.0) in
    (rw (kept {x = (get_or c.args.plane.now (c.args.first + c.loop-i.i) (pos 0))} c.mixed_entry-arg-1.given) (c.requires.by_index.0 (c.args.first + c.loop-i.i) place), rw (kept {x = (get_or c.args.decomposed.now (c.args.first + c.loop-i.i) (pos 0))} c.mixed_entry-arg-in-loop-i-1.given) (c.requires.by_index.1 (c.args.first + c.loop-i.i) place), c.requires.count_in_bounds.4)

pub loop-i-preserved : goal.loop-i-preserved
loop-i-preserved c =
    let place : (c.args.first + c.loop-i.i) < length c.args.out.now = omega (arith, c.requires.count_in_bounds.0) in
    let stored : to_z w64 (of_z w64 c.mixed_entry.result) ≡ mixed_entry c.args.step c.args.low (get_or c.args.plane.now (c.args.first + c.loop-i.i) (pos 0)) (get_or c.args.decomposed.now (c.args.first + c.loop-i.i) (pos 0)) =
    read w64
    (c.mixed_entry.ensures ∙ λ j. mixed_entry c.args.step c.args.low (kept {x = (get_or c.args.plane.now (c.args.first + c.loop-i.i) (pos 0))} c.mixed_entry-arg-1.given j) (kept {x = (get_or c.args.decomposed.now (c.args.first + c.loop-i.i) (pos 0))} c.mixed_entry-arg-in-loop-i-1.given j))
    (entry_small c.args.step c.args.low (get_or c.args.plane.now (c.args.first + c.loop-i.i) (pos 0)) (get_or c.args.decomposed.now (c.args.first + c.loop-i.i) (pos 0)) c.requires.count_in_bounds.4 (c.requires.by_index.0 (c.args.first + c.loop-i.i) place) (c.requires.by_index.1 (c.args.first + c.loop-i.i) place)) in
    let l = c.loop-i in
    let q : c.args.first + l.i + 1 ≡ c.args.first + (l.i + 1) = omega arith in
    λ new old m n k e. half_store new old (c.args.first + l.i) (pos 0) (l.invariant new old m n k e) (stored ∙ sym (m l.i (omega arith))) n (omega (arith, place)) ∙ ap (half new old) q

pub returns : goal.returns
returns c =
    let l = c.loop-i in
    let q : l.i ≡ c.args.count = omega arith in
    λ new old m n k e. l.invariant new old m n k e ∙ ap (λ (i : ℕ). half new old (c.args.first + i)) q
