-- `costing::spread_of` meets its contract. Assumes nothing.
use mathlib.Core.Path.{◌≡◌}
use Prim.Native.Nat.{ℕ, ◌*◌, ◌^◌, ◌≤◌, ◌<◌}
use native.Mathlib.Omega.{arith}
use lib.IntN.{nat_abs}
use mir.Facts.{to_z-of_z}
use Rattle.block.specs.Block.{sign_row}
use Rattle.kernel.specs.Kernel.{four, Bands}
use Rattle.kernel.proofs.Kernel.{four_small, summed, r, read_row}
use Rattle.costing.proofs.spread_of.Goals as goal

pub overflow_add-result : goal.overflow_add-result
overflow_add-result c =
    let small : (i : ℕ) → i < 4 → nat_abs (four c.args.a c.args.b c.args.c c.args.d i) ≤ 2 ^ 40 = let p = c.requires in let x = c.args in four_small (2 ^ 40) x.a x.b x.c x.d p.0 p.1 p.2 p.3 in
    let bands : (let s = c.signed_sums-s.result in Bands (λ k. sign_row k (four c.args.a c.args.b c.args.c c.args.d)) s.low s.w1 s.w2 s.w3) = let f = c.ranges in summed (four c.args.a c.args.b c.args.c c.args.d) (to_z-of_z f.a) (to_z-of_z f.b) (to_z-of_z f.c) (to_z-of_z f.d) c.signed_sums-s.ensures in
    let row1 : (nat_abs (r c.signed_sums-s.result.w1) ≡ nat_abs (sign_row 1 (four c.args.a c.args.b c.args.c c.args.d))) × (nat_abs (sign_row 1 (four c.args.a c.args.b c.args.c c.args.d)) ≤ 4 * 2 ^ 40) = read_row (four c.args.a c.args.b c.args.c c.args.d) small 1 bands.first in
    let row2 : (nat_abs (r c.signed_sums-s.result.w2) ≡ nat_abs (sign_row 2 (four c.args.a c.args.b c.args.c c.args.d))) × (nat_abs (sign_row 2 (four c.args.a c.args.b c.args.c c.args.d)) ≤ 4 * 2 ^ 40) = read_row (four c.args.a c.args.b c.args.c c.args.d) small 2 bands.second in
    omega (arith, c.magnitude-2.ensures, c.magnitude.ensures, row1, row2)

pub overflow_add-result-2 : goal.overflow_add-result-2
overflow_add-result-2 c =
    let small : (i : ℕ) → i < 4 → nat_abs (four c.args.a c.args.b c.args.c c.args.d i) ≤ 2 ^ 40 = let p = c.requires in let x = c.args in four_small (2 ^ 40) x.a x.b x.c x.d p.0 p.1 p.2 p.3 in
    let bands : (let s = c.signed_sums-s.result in Bands (λ k. sign_row k (four c.args.a c.args.b c.args.c c.args.d)) s.low s.w1 s.w2 s.w3) = let f = c.ranges in summed (four c.args.a c.args.b c.args.c c.args.d) (to_z-of_z f.a) (to_z-of_z f.b) (to_z-of_z f.c) (to_z-of_z f.d) c.signed_sums-s.ensures in
    let row1 : (nat_abs (r c.signed_sums-s.result.w1) ≡ nat_abs (sign_row 1 (four c.args.a c.args.b c.args.c c.args.d))) × (nat_abs (sign_row 1 (four c.args.a c.args.b c.args.c c.args.d)) ≤ 4 * 2 ^ 40) = read_row (four c.args.a c.args.b c.args.c c.args.d) small 1 bands.first in
    let row2 : (nat_abs (r c.signed_sums-s.result.w2) ≡ nat_abs (sign_row 2 (four c.args.a c.args.b c.args.c c.args.d))) × (nat_abs (sign_row 2 (four c.args.a c.args.b c.args.c c.args.d)) ≤ 4 * 2 ^ 40) = read_row (four c.args.a c.args.b c.args.c c.args.d) small 2 bands.second in
    let row3 : (nat_abs (r c.signed_sums-s.result.w3) ≡ nat_abs (sign_row 3 (four c.args.a c.args.b c.args.c c.args.d))) × (nat_abs (sign_row 3 (four c.args.a c.args.b c.args.c c.args.d)) ≤ 4 * 2 ^ 40) = read_row (four c.args.a c.args.b c.args.c c.args.d) small 3 bands.third in
    omega (arith, c.magnitude-3.ensures, c.magnitude-2.ensures, c.magnitude.ensures, row1, row2, row3)

pub returns : goal.returns
returns c =
    let small : (i : ℕ) → i < 4 → nat_abs (four c.args.a c.args.b c.args.c c.args.d i) ≤ 2 ^ 40 = let p = c.requires in let x = c.args in four_small (2 ^ 40) x.a x.b x.c x.d p.0 p.1 p.2 p.3 in
    let bands : (let s = c.signed_sums-s.result in Bands (λ k. sign_row k (four c.args.a c.args.b c.args.c c.args.d)) s.low s.w1 s.w2 s.w3) = let f = c.ranges in summed (four c.args.a c.args.b c.args.c c.args.d) (to_z-of_z f.a) (to_z-of_z f.b) (to_z-of_z f.c) (to_z-of_z f.d) c.signed_sums-s.ensures in
    let row1 : (nat_abs (r c.signed_sums-s.result.w1) ≡ nat_abs (sign_row 1 (four c.args.a c.args.b c.args.c c.args.d))) × (nat_abs (sign_row 1 (four c.args.a c.args.b c.args.c c.args.d)) ≤ 4 * 2 ^ 40) = read_row (four c.args.a c.args.b c.args.c c.args.d) small 1 bands.first in
    let row2 : (nat_abs (r c.signed_sums-s.result.w2) ≡ nat_abs (sign_row 2 (four c.args.a c.args.b c.args.c c.args.d))) × (nat_abs (sign_row 2 (four c.args.a c.args.b c.args.c c.args.d)) ≤ 4 * 2 ^ 40) = read_row (four c.args.a c.args.b c.args.c c.args.d) small 2 bands.second in
    let row3 : (nat_abs (r c.signed_sums-s.result.w3) ≡ nat_abs (sign_row 3 (four c.args.a c.args.b c.args.c c.args.d))) × (nat_abs (sign_row 3 (four c.args.a c.args.b c.args.c c.args.d)) ≤ 4 * 2 ^ 40) = read_row (four c.args.a c.args.b c.args.c c.args.d) small 3 bands.third in
    omega (arith, c.magnitude-3.ensures, c.magnitude-2.ensures, c.magnitude.ensures, row1, row2, row3)
