-- The window viewer: which windows fit a picture, what a window of a picture's samples is, and the entry's checks and what it leaves. Assumes nothing.
use Rattle.std.specs.Prelude.{◌≡◌, Bool, not, ◌&&◌, List, ℕ, ◌+◌, ◌*◌, ◌/◌, ◌%◌, leb, ltb, get_or}
use Rattle.refusals.specs.Refusal.{refuse_if, after_call}
use Rattle.integers.specs.Lists.{tabulate}
use Rattle.pyramid.specs.Sides.{is_plane}
use Rattle.pyramid.specs.Slices.{samples_of}
use Rattle.strips.specs.Strip.{Strip, is_framed, is_numbered, is_ranged}
use Rattle.places.specs.Sizes.{size_refusal}
use Rattle.windows.specs.declared.View.{View}

-- Document 02, wish 9: a window is given "by top row, left column, height and width".
abbrev pub view_of : ℕ → ℕ → ℕ → ℕ → View
view_of top left tall wide = record { top = top; left = left; tall = tall; wide = wide }

-- "17 when the window has no cell or reaches past the picture": of n rows, or columns, it has at least one, and none behind the last.
abbrev pub is_within : ℕ → ℕ → ℕ → Bool
is_within n first count = ltb 0 count && leb (first + count) n

abbrev pub fits_window : ℕ → ℕ → View → Bool
fits_window h w v = is_within h v.top v.tall && is_within w v.left v.wide

-- "Its samples are those of the full restoration at the same places", "stored down the window's columns": its entry k, in row k mod tall and column k div tall
-- of the window, is the sample in row top + k mod tall, column left + k div tall of the picture, of h rows.
unfoldable pub window_of : ℕ → View → List ℕ → List ℕ
window_of h v s = tabulate (v.wide * v.tall) (λ k. get_or s ((v.left + k / v.tall) * h + (v.top + k % v.tall)) 0)

-- "Checks are those of restoring without a list, and 5 and 6 still look at the whole plane. 17 .. after 2 and before 3"; "a slice of exactly its height times
-- its width, which 3 looks at".
abbrev pub window_refusal : Strip → View → List ℕ → ℕ
window_refusal s v samples =
    size_refusal s.height s.width s.levels
    (refuse_if (not (fits_window s.height s.width v)) 17
    (refuse_if (not (is_framed s && is_plane v.tall v.wide samples)) 3
    (refuse_if (not (is_numbered s)) 5
    (refuse_if (not (is_ranged s)) 6
    0))))

-- n is the number that the call is answered with, 0 where it is accepted; samples' is what the window's slice holds after the call.
pub record Viewed (s : Strip) (v : View) (samples samples' : List ℕ) (n : ℕ) : Type 0 where
  pub number : n ≡ window_refusal s v samples
  pub image : samples' ≡ after_call n (window_of s.height v (samples_of s.levels s.height s.width s.coverings s.plane)) samples
