-- Images and planes as slices, stored down columns, and what decomposing and restoring give on them. Assumes nothing.
use Rattle.std.specs.Prelude.{List, map, ℕ, ◌+◌, ◌*◌, ◌/◌, ◌%◌, ◌^◌, min, ℤ, pos, negsuc, ◌+ℤ◌, ◌*ℤ◌, get_or}
use Rattle.std.specs.Int.Signed.{shr_z}
use Rattle.integers.specs.Lists.{tabulate}
use Rattle.terms.specs.Terms.{Terms}
use Rattle.pyramid.specs.Plane.{Image, analyse, numerators, listed, covers, covers_on}

-- Document 01: "Samples are 0 to 4,095, stored down columns, as is the plane." The entry in row y, column x of a slice of height h is at x * h + y.
abbrev pub image_of : ℕ → List ℤ → Image
image_of h l y x = get_or l (x * h + y) (pos 0)

abbrev pub picture_of : ℕ → List ℕ → Image
picture_of h s y x = pos (get_or s (x * h + y) 0)

-- The slice of an image of height h and width w.
unfoldable pub slice_of : ℕ → ℕ → Image → List ℤ
slice_of h w A = tabulate (w * h) (λ k. A (k % h) (k / h))

-- The plane of R levels of the picture s, by given coverings.
abbrev pub plane_with : ℕ → ℕ → ℕ → List ℕ → List ℕ → List ℤ
plane_with R h w cs s = slice_of h w (analyse R h w (listed cs) (picture_of h s))

-- Decomposing R levels gives the coverings, and the plane by these coverings.
abbrev pub covers_of : ℕ → ℕ → ℕ → List ℕ → List ℕ
covers_of R h w s = covers R h w (picture_of h s)

abbrev pub plane_of : ℕ → ℕ → ℕ → List ℕ → List ℤ
plane_of R h w s = plane_with R h w (covers_of R h w s) s

-- The same on terms (document 02, wishes 6 and 7).
abbrev pub covers_by : Terms → ℕ → ℕ → ℕ → List ℕ → List ℕ
covers_by t R h w s = covers_on t R h w (picture_of h s)

abbrev pub plane_by : Terms → ℕ → ℕ → ℕ → List ℕ → List ℤ
plane_by t R h w s = plane_with R h w (covers_by t R h w s) s

-- Restoring gives the numerators and the samples.
abbrev pub numerators_of : ℕ → ℕ → ℕ → List ℕ → List ℤ → List ℤ
numerators_of R h w cs p = slice_of h w (numerators R h w (listed cs) (image_of h p))

-- Document 01: "The sample is Y/4^R rounded to nearest, halves upward, negative ones too". `shr_z z m` is z over m, rounded down.
abbrev pub nearest : ℕ → ℤ → ℤ
nearest R y = shr_z (pos 2 *ℤ y +ℤ pos (4 ^ R)) (2 * 4 ^ R)

-- "then held to 0 and 4,095".
abbrev pub held : ℤ → ℕ
held (pos n) = min n 4095
held (negsuc n) = 0

abbrev pub sample_of : ℕ → ℤ → ℕ
sample_of R y = held (nearest R y)

abbrev pub samples_of : ℕ → ℕ → ℕ → List ℕ → List ℤ → List ℕ
samples_of R h w cs p = map (sample_of R) (numerators_of R h w cs p)
