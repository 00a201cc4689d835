-- `synthesis::merge_block` meets its contract. Assumes nothing.
use mathlib.Core.Path.{◌≡◌, ap, ◌∙◌, subst⁻¹}
use mathlib.Core.List.{List}
use Prim.Native.Nat.{ℕ, ◌+◌, ◌*◌, ◌/◌, ◌^◌, ◌<◌, ◌≤◌}
use native.Mathlib.Omega.{arith}
use lib.IntN.{ℤ}
use lib.ListN.{length, get_or}
use Rattle.slices.specs.Stores.{scatter}
use Rattle.coverings.specs.Rule.{Number}
use Rattle.tables.specs.Tables.{cell_at}
use Rattle.kernel.specs.Kernel.{at, Within, piecewise}
use Rattle.grid.specs.Grid.{cell_place, band_place, starts_of}
use Rattle.grid.proofs.Pieces.{pieces_cells}
use Rattle.synthesis.specs.Synthesis.{weighted, merged_block, put_block}
use Rattle.synthesis.proofs.Merging.{level_within, covering_below, cells_inside, results_asked}
use Rattle.synthesis.proofs.merge_block.Goals as goal
use Rattle.synthesis.proofs.merge_block.Goals.{After-results_of-results}

-- its results
abbrev bands : (h tall wide m i j : ℕ) → List ℤ → List ℤ
bands h tall wide m i j image = weighted m (band_place h (starts_of h tall wide i j)) image

read_bands : (c : goal.After-results_of-results) → c.results_of-results.result ≡ (let a = c.args in bands a.height a.tall a.wide a.weight a.i a.j a.image.now)
read_bands c = let a = c.args in c.results_of-results.ensures ∙ ap (λ (b : List ℕ). weighted a.weight (band_place a.height b) a.image.now) c.starts-begin.ensures

pub results_of-results-requires : goal.results_of-results-requires
results_of-results-requires c =
    let asked = results_asked c.requires.level c.args.i c.args.j c.requires.height_in_bounds.1 c.requires.height_in_bounds.2 c.starts-begin.ensures in
    record { by_index = asked.0; weight_bound = asked.1 }

pub by_labels-values-requires : goal.by_labels-values-requires
by_labels-values-requires c =
    subst⁻¹ (λ (v : List ℤ). Within (2 ^ 40) v) (read_bands c) (level_within c.requires.level c.args.i c.args.j c.requires.height_in_bounds.1 c.requires.height_in_bounds.2)

pub overflow_mul-j-2 : goal.overflow_mul-j-2
overflow_mul-j-2 c =
    let inside : c.args.j * 4 * c.args.height + c.args.i * 4 + 3 * c.args.height + 3 < length c.args.out.now = omega (arith, cells_inside c.requires.level c.args.i c.args.j c.requires.height_in_bounds.1 c.requires.height_in_bounds.2, c.requires.height_in_bounds.0) in
    omega (arith, inside, c.well_formed)

pub overflow_add-j : goal.overflow_add-j
overflow_add-j c =
    let inside : c.args.j * 4 * c.args.height + c.args.i * 4 + 3 * c.args.height + 3 < length c.args.out.now = omega (arith, cells_inside c.requires.level c.args.i c.args.j c.requires.height_in_bounds.1 c.requires.height_in_bounds.2, c.requires.height_in_bounds.0) in
    omega (arith, inside, c.well_formed)

pub overflow_mul-j-3 : goal.overflow_mul-j-3
overflow_mul-j-3 c =
    let below : c.args.first + (c.args.j * (c.args.tall / 4) + c.args.i) < length c.args.coverings.now = omega (arith, covering_below c.requires.level c.args.i c.args.j c.requires.height_in_bounds.1 c.requires.height_in_bounds.2, c.requires.level.covered) in
    omega (arith, below, c.well_formed)

pub overflow_add-j-2 : goal.overflow_add-j-2
overflow_add-j-2 c =
    let below : c.args.first + (c.args.j * (c.args.tall / 4) + c.args.i) < length c.args.coverings.now = omega (arith, covering_below c.requires.level c.args.i c.args.j c.requires.height_in_bounds.1 c.requires.height_in_bounds.2, c.requires.level.covered) in
    omega (arith, below, c.well_formed)

pub overflow_add-first : goal.overflow_add-first
overflow_add-first c =
    let below : c.args.first + (c.args.j * (c.args.tall / 4) + c.args.i) < length c.args.coverings.now = omega (arith, covering_below c.requires.level c.args.i c.args.j c.requires.height_in_bounds.1 c.requires.height_in_bounds.2, c.requires.level.covered) in
    omega (arith, below, c.well_formed)

pub bounds-coverings-first : goal.bounds-coverings-first
bounds-coverings-first c =
    let below : c.args.first + (c.args.j * (c.args.tall / 4) + c.args.i) < length c.args.coverings.now = omega (arith, covering_below c.requires.level c.args.i c.args.j c.requires.height_in_bounds.1 c.requires.height_in_bounds.2, c.requires.level.covered) in
    below

pub put_pieces-requires : goal.put_pieces-requires
put_pieces-requires c =
    let inside : c.args.j * 4 * c.args.height + c.args.i * 4 + 3 * c.args.height + 3 < length c.args.out.now = omega (arith, cells_inside c.requires.level c.args.i c.args.j c.requires.height_in_bounds.1 c.requires.height_in_bounds.2, c.requires.height_in_bounds.0) in
    let number : Number (get_or c.args.coverings.now (c.args.first + (c.args.j * (c.args.tall / 4) + c.args.i)) 0) = c.requires.level.numbers (c.args.j * (c.args.tall / 4) + c.args.i) (covering_below c.requires.level c.args.i c.args.j c.requires.height_in_bounds.1 c.requires.height_in_bounds.2) in
    (number, inside)

pub returns : goal.returns
unfolding put_block merged_block
returns c =
    let inside : c.args.j * 4 * c.args.height + c.args.i * 4 + 3 * c.args.height + 3 < length c.args.out.now = omega (arith, cells_inside c.requires.level c.args.i c.args.j c.requires.height_in_bounds.1 c.requires.height_in_bounds.2, c.requires.height_in_bounds.0) in
    let number : Number (get_or c.args.coverings.now (c.args.first + (c.args.j * (c.args.tall / 4) + c.args.i)) 0) = c.requires.level.numbers (c.args.j * (c.args.tall / 4) + c.args.i) (covering_below c.requires.level c.args.i c.args.j c.requires.height_in_bounds.1 c.requires.height_in_bounds.2) in
    let high : 4 ≤ c.args.height = omega (arith, c.requires.height_in_bounds.1, c.requires.level.inside) in
    let a = c.args in
    let n = get_or a.coverings.now (a.first + (a.j * (a.tall / 4) + a.i)) 0 in
    let start = a.j * 4 * a.height + a.i * 4 in
    c.put_pieces.ensures
    ∙ ap (λ (v : List ℤ). scatter (λ k. cell_place a.height start (cell_at n k)) (at v) 16 a.out.now) (c.by_labels-values.ensures ∙ ap piecewise (read_bands (goal.at.returns c).After-results_of-results))
    ∙ pieces_cells a.height start n (bands a.height a.tall a.wide a.weight a.i a.j a.image.now) a.out.now number high inside
