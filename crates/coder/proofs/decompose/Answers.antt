-- `coder::decompose` meets its contract: its checks, then the work. Assumes nothing.
use mathlib.Core.Path.{◌≡◌, ap, ◌∙◌}
use mathlib.Core.List.{List}
use Prim.Native.Nat.{ℕ}
use native.Mathlib.Omega.{arith}
use Rattle.refusals.proofs.After.{front_refused, front_passed}
use Rattle.terms.specs.Terms.{among}
use Rattle.terms.proofs.Good.{good_full}
use Rattle.pyramid.specs.Slices.{picture_of, plane_with, covers_of, covers_by}
use Rattle.pyramid.proofs.Choose.{on_without}
use Rattle.pyramid.proofs.Sides.{sides_are}
use Rattle.coder.specs.Entries.{decompose_refusal}
use Rattle.coder.proofs.Gates.{truth, small_samples, refuses, picture_past}
use Rattle.coder.proofs.decompose.Goals as goal

pub every_covering-list-requires : goal.every_covering-list-requires
every_covering-list-requires c = tt

pub decompose_all-requires : goal.decompose_all-requires
decompose_all-requires c =
    let accepted : let a = c.args in 0 ≡ decompose_refusal a.height a.width a.levels a.samples.now a.plane.now a.coverings.now a.scratch.now = front_passed 0 c.in_ok-decompose_checks.was (c.decompose_checks.ensures 0) in
    let a = c.args in
    let z = (picture_past a.height a.width a.levels a.samples.now a.plane.now a.coverings.now a.scratch.now accepted).0 in
    let s = sides_are a.height a.width (truth z.sided) in
    record { t = (s.0, s.1, truth z.deep); samples_len = (z.long, z.plane_long, z.covered, z.scratch_long); by_index = (small_samples a.samples.now z.small z.long, omega arith, good_full _ c.every_covering-list.ensures) }

pub returns : goal.returns
returns c =
    let accepted : let a = c.args in 0 ≡ decompose_refusal a.height a.width a.levels a.samples.now a.plane.now a.coverings.now a.scratch.now = front_passed 0 c.in_ok-decompose_checks.was (c.decompose_checks.ensures 0) in
    let e = c.decompose_all.ensures in
    let a = c.args in
    let all = c.every_covering-list.ensures in
    let w : covers_by (among 0 c.every_covering-list.result) a.levels a.height a.width a.samples.now ≡ covers_of a.levels a.height a.width a.samples.now =
    ap (λ (l : List ℕ). covers_by (among 0 l) a.levels a.height a.width a.samples.now) all ∙ on_without a.levels a.height a.width (picture_of a.height a.samples.now) in
    record {
      number = accepted;
      planes = e.0 ∙ ap (λ (cs : List ℕ). plane_with a.levels a.height a.width cs a.samples.now) w;
      covers = e.1 ∙ w;
      zeros = e.2;
    }
