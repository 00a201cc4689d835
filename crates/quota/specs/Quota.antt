-- Ranks, Keep K and Cut by T of document 01, "Cutting". Assumes nothing.
use Rattle.std.specs.Prelude.{Bool, ◌&&◌, ◌||◌, cond, List, map, ℕ, zero, suc, ◌+◌, ◌*◌, ◌-◌, ◌/◌, ◌^◌, eqb, ltb, leb, length, get_or, ℤ, pos, nat_abs}
use Rattle.integers.specs.Sum.{Σℕ}
use Rattle.integers.specs.Zero.{is_zero}
use Rattle.pyramid.specs.Plane.{Image, band, layout, with_low}
use Rattle.pyramid.specs.Slices.{image_of, slice_of}
use Rattle.pyramid.specs.Places.{Place, no_place, tetrolet_places, at, sum_over}

-- "rank is |W| times 2^(R-r)".
abbrev pub rank_of : ℕ → Image → Place → ℕ
rank_of R P p = nat_abs (at P p) * 2 ^ (R - p.level)

abbrev pub ranks : ℕ → ℕ → ℕ → Image → List ℕ
ranks R h w P = map (rank_of R P) (tetrolet_places R h w)

-- "Tetrolet entries not zero are ordered by falling rank, then plane order": entry m goes before entry n.
abbrev pub before : List ℕ → ℕ → ℕ → Bool
before q m n = ltb (get_or q n 0) (get_or q m 0) || (eqb (get_or q n 0) (get_or q m 0) && ltb m n)

-- "the first K stay": entry n stays if it is not zero and fewer than K entries go before it.
unfoldable pub stays : ℕ → List ℕ → ℕ → Bool
stays K q n = ltb 0 (get_or q n 0) && ltb (Σℕ (length q) (λ m. cond (before q m n) 1 0)) K

-- "the others become 0", "band 0 is never cut": the plane with 0 at each tetrolet entry whose number in plane order does not pass the test.
unfoldable pub select : ℕ → ℕ → ℕ → (ℕ → Bool) → Image → Image
select zero h w stay P = P
select (suc R) h w stay P =
    let size = (w / 2) * (h / 2) in
    layout h w
    (with_low
    (select R (h / 2) (w / 2) (λ n. stay (size + (size + (size + n)))) P)
    (λ b y x. cond (stay ((b - 1) * size + (x * (h / 2) + y))) (band h w P b y x) (pos 0)))

-- What Keep K leaves of a plane.
abbrev pub kept : ℕ → ℕ → ℕ → ℕ → Image → Image
kept R h w K P = let q = ranks R h w P in select R h w (stays K q) P

-- "a level-r entry stays if |W| is at least T times 2^r": what cutting by T leaves.
abbrev pub passes : ℕ → Image → Place → Bool
passes T P p = leb (T * 2 ^ p.level) (nat_abs (at P p))

abbrev pub cut : ℕ → ℕ → ℕ → ℕ → Image → Image
cut R h w T P = select R h w (λ n. passes T P (get_or (tetrolet_places R h w) n no_place)) P

-- "the number of tetrolet entries left that are not zero".
abbrev pub entries : ℕ → ℕ → ℕ → Image → ℕ
entries R h w P = sum_over (tetrolet_places R h w) (λ p. cond (is_zero (at P p)) 0 1)

-- The same on slices: the plane that Keep leaves, the plane that Cut leaves, and the number of tetrolet entries that are not zero.
abbrev pub kept_of : ℕ → ℕ → ℕ → ℕ → List ℤ → List ℤ
kept_of R h w K p = slice_of h w (kept R h w K (image_of h p))

abbrev pub cut_of : ℕ → ℕ → ℕ → ℕ → List ℤ → List ℤ
cut_of R h w T p = slice_of h w (cut R h w T (image_of h p))

abbrev pub entries_of : ℕ → ℕ → ℕ → List ℤ → ℕ
entries_of R h w p = entries R h w (image_of h p)

-- Document 01, refusal 7: "K over N^2 - N^2/4^R"; document 02, wish 2: "All formulas with N^2 use height times width."
abbrev pub quota_limit : ℕ → ℕ → ℕ → ℕ
quota_limit height width levels = width * height - width * height / 4 ^ levels
