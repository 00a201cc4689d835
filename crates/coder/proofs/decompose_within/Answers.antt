-- `coder::decompose_within` meets its contract: its checks, then the work. Assumes nothing.
use mathlib.Core.Path.{◌≡◌, ap, ◌∙◌}
use mathlib.Core.List.{List}
use Prim.Native.Nat.{ℕ}
use Rattle.refusals.proofs.After.{front_refused, front_passed}
use Rattle.terms.specs.Terms.{among}
use Rattle.terms.proofs.Good.{good_full}
use Rattle.pyramid.specs.Slices.{covers_by, plane_by}
use Rattle.pyramid.proofs.Sides.{sides_are}
use Rattle.coder.specs.Entries.{within_refusal}
use Rattle.coder.proofs.Gates.{truth, small_samples, refuses_within, tolerance_past}
use Rattle.coder.proofs.decompose_within.Goals as goal

pub every_covering-list-requires : goal.every_covering-list-requires
every_covering-list-requires c = tt

pub decompose_all-requires : goal.decompose_all-requires
decompose_all-requires c =
    let accepted : let a = c.args in 0 ≡ within_refusal a.height a.width a.levels a.tolerance a.samples.now a.plane.now a.coverings.now a.scratch.now = front_passed 0 c.in_ok-within_checks.was (c.within_checks.ensures 0) in
    let a = c.args in
    let y = tolerance_past a.height a.width a.levels a.tolerance a.samples.now a.plane.now a.coverings.now a.scratch.now accepted in
    let z = y.0 in
    let s = sides_are a.height a.width (truth z.sided) in
    record { t = (s.0, s.1, truth z.deep); samples_len = (z.long, z.plane_long, z.covered, z.scratch_long); by_index = (small_samples a.samples.now z.small z.long, y.1, good_full _ c.every_covering-list.ensures) }

pub returns : goal.returns
returns c =
    let accepted : let a = c.args in 0 ≡ within_refusal a.height a.width a.levels a.tolerance a.samples.now a.plane.now a.coverings.now a.scratch.now = front_passed 0 c.in_ok-within_checks.was (c.within_checks.ensures 0) in
    let e = c.decompose_all.ensures in
    let all = c.every_covering-list.ensures in
    let a = c.args in
    record {
      number = accepted;
      planes = e.0 ∙ ap (λ (l : List ℕ). plane_by (among a.tolerance l) a.levels a.height a.width a.samples.now) all;
      covers = e.1 ∙ ap (λ (l : List ℕ). covers_by (among a.tolerance l) a.levels a.height a.width a.samples.now) all;
      zeros = e.2;
    }
