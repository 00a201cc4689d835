-- `sheet_scan::scan::store_values` meets its contract: in a cleared plane each line goes to its own place, and what is left to store is all there is to store.
-- Assumes nothing.
use mathlib.Core.Path.{◌≡◌, refl, sym, ap, ◌∙◌, subst}
use mathlib.Core.List.{List, ◌∷◌, ◌++◌}
use Prim.Native.Nat.{ℕ, ◌*◌, ◌<◌}
use native.Mathlib.Omega.{arith}
use lib.IntN.{ℤ, pos}
use lib.ListN.{length, replicate, length-replicate, set, length-set, get_or}
use mir.Syntax.{w64}
use mir.Val.{to_z, of_z}
use Rattle.text.specs.Lines.{five, lines_at}
use Rattle.text.proofs.Many.{FiveLine, five_none, five_line, five_at_law, lines_stop}
use Rattle.pyramid.specs.Places.{plane_places}
use Rattle.places.specs.Walk.{entry_of, index_in}
use Rattle.places.proofs.Sides.{Passed, passed}
use Rattle.sheet_scan.specs.Scan.{stored_along}
use Rattle.sheet_scan.specs.Front.{walk_to, Standing, places_left}
use Rattle.sheet_scan.proofs.Stored.{Filling, cleared, same_plane, all_lines, all_places, pass_others, put_line}
use Rattle.sheet_scan.proofs.Fronts.{ended, Reached, reached, line_of, value_of, others_of}
use Rattle.sheet_scan.proofs.scan.store_values.Goals as goal

-- what the plane held before it was cleared does not matter
stored : (h w R : ℕ) (P P' : List ℤ) (rs : List (List ℤ)) → Passed h w R → length P ≡ w * h → P' ≡ replicate (length P) (pos 0)
    → stored_along h (plane_places R h w) rs P' ≡ stored_along h (plane_places R h w) rs P
stored h w R P P' rs q l e = same_plane h w R q rs P' (ap length e ∙ length-replicate (length P) (pos 0) ∙ l) ∙ sym (same_plane h w R q rs P l)

pub loop-f-init : goal.loop-f-init
loop-f-init c =
    let a = c.args in
    let P = c.clear.new.s in
    let rs = lines_at five a.s.now a.at in
    let q = passed a.height a.width a.levels c.requires.width_value.0 c.requires.width_value.1 in
    let z = c.clear.ensures ∙ ap (λ (n : ℕ). replicate n (pos 0)) c.requires.plane_len in (
      c.first-k.ensures.0,
      c.first-k.ensures.1,
      refl,
      subst (λ ps. Filling a.height (stored_along a.height (plane_places a.levels a.height a.width) rs P) P ps rs) (sym c.first-k.ensures.2) (cleared a.height a.width a.levels q rs P z),
    )

pub returns : goal.returns
returns c =
    let a = c.args in
    let l = c.loop-f in
    let none = five_none a.s.now l.p (sym c.in_default.ensures) in
    all_lines a.height _ l.plane (places_left l.k) (lines_at five a.s.now l.p) l.invariant.3 (lines_stop five a.s.now l.p none) ∙ stored a.height a.width a.levels a.plane.now c.clear.new.s (lines_at five a.s.now a.at) (passed a.height a.width a.levels c.requires.width_value.0 c.requires.width_value.1) c.requires.plane_len c.clear.ensures

pub returns-then-k-eq0 : goal.returns-then-k-eq0
returns-then-k-eq0 c =
    let line : FiveLine c.args.s.now c.loop-f.p c.in-Some.f = five_line c.args.s.now c.loop-f.p c.in-Some.f (sym c.in-Some.ensures) in
    let a = c.args in
    let l = c.loop-f in
    let f = c.in-Some.f in
    let x = line in
    let q = c.seek-k.ensures.skipped in
    let rs' = lines_at five a.s.now f.next in
    let o = others_of a.s.now l.p f x rs' q.places q.others in
    all_places a.height _ l.plane (places_left c.seek-k.result) (x.cells ∷ rs')
    (pass_others a.height _ l.plane x.cells rs' (lines_at five a.s.now l.p) q.places (places_left l.k) (places_left c.seek-k.result) l.invariant.3 x.lines q.all o)
    (ended c.seek-k.result (omega arith))
    ∙ stored a.height a.width a.levels a.plane.now c.clear.new.s (lines_at five a.s.now a.at) (passed a.height a.width a.levels c.requires.width_value.0 c.requires.width_value.1) c.requires.plane_len c.clear.ensures

pub loop-f-smaller : goal.loop-f-smaller
loop-f-smaller c =
    (five_at_law c.args.s.now c.loop-f.p c.in-Some.f (sym c.in-Some.ensures)).less

pub loop-f-preserved : goal.loop-f-preserved
loop-f-preserved c =
    let line : FiveLine c.args.s.now c.loop-f.p c.in-Some.f = five_line c.args.s.now c.loop-f.p c.in-Some.f (sym c.in-Some.ensures) in
    let a = c.args in
    let l = c.loop-f in
    let f = c.in-Some.f in
    let x = line in
    let k = c.seek-k.result in
    let g : 0 < k.left = omega (arith, c.if-k-eq0.false) in
    let w : Reached a.height a.width f l.k k = reached a.height a.width f l.k k c.seek-k.ensures g in
    let p = entry_of (walk_to k f) in
    let t = places_left c.past_line-k.result in
    let rs' = lines_at five a.s.now f.next in
    let o = others_of a.s.now l.p f x rs' w.places w.others in
    let e = w.all ∙ ap (λ z. w.places ++ (p ∷ places_left z)) (sym c.past_line-k.ensures) in
    let h = sym (line_of a.s.now l.p f x p) ∙ w.here in
    let i = c.index_of-i.result in
    let v = to_z w64 (of_z w64 f.value) in
    let j : i ≡ index_in a.height p = c.index_of-i.ensures.0 ∙ ap (λ z. index_in a.height (entry_of z)) c.walk_to-here.ensures in
    let n : set l.plane (index_in a.height p) (get_or x.cells 4 (pos 0)) ≡ set l.plane i v = sym (λ r. set l.plane (j r) (value_of a.s.now l.p f x r)) in
    let W = stored_along a.height (plane_places a.levels a.height a.width) (lines_at five a.s.now a.at) c.clear.new.s in (
      subst (λ z. Standing a.height a.width z) (sym c.past_line-k.ensures) c.seek-k.ensures.skipped.standing,
      omega (arith, g, ap (λ z. z.left) c.past_line-k.ensures),
      length-set l.plane i v ∙ l.invariant.2,
      subst (λ P. Filling a.height W P t rs') n
          (put_line a.height W l.plane x.cells rs' p (p ∷ t) t
          (pass_others a.height W l.plane x.cells rs' (lines_at five a.s.now l.p) w.places (places_left l.k) (p ∷ t) l.invariant.3 x.lines e o)
          refl h),
    )
