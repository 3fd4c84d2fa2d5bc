-- Day numbers of the century 20, and dates as six digits.
use Rattle.mv_pack.proofs.Words.{List, Ok, arith, cond, is_digit, length, list_all, nat_tests, pos, true, ℕ, ◌+◌, ◌<◌, ◌==◌, ◌≡◌, ◌≤ℤ◌, ◌≤◌}
use Rattle.mv_pack.proofs.TextLemmas.{passes_at}
use Rattle.jiff_core.specs.Calendar.{days_from_civil}
use Rattle.jiff_core.proofs.CalendarLemmas.{day_count-lt_year}
use Rattle.mv_pack.specs.Expiry.{CivilDate, IsExpiry, day_of, dated, two_digits_at, expiry_text, read_expiry}
use Rattle.mv_pack.specs.Moment.{IsMoment, read_moment}

-- no day of the range has a negative number
pub day_from_1970 : (date : CivilDate) → IsExpiry date → pos 0 ≤ℤ day_of date
unfolding days_from_civil
day_from_1970 date h = grind (arith, day_count-lt_year)

-- the two digits from a place on stand for a number below 100
two_digits_below : (t : List ℕ) (i : ℕ) → list_all is_digit t ≡ true → i + 1 < length t → two_digits_at i t < 100
two_digits_below t i all within = grind (arith, passes_at)

-- the day that is kept is one of the month
kept_day : (day last : ℕ) → 1 ≤ last → day ≤ last → (1 ≤ cond (day == 0) last day) × (cond (day == 0) last day ≤ last)
kept_day day last some within = grind (arith, nat_tests)

-- a date of a year from 2000 to 2099 is one of the range
dated_is_expiry : (year month day : ℕ) (date : CivilDate) → 2000 ≤ year → year ≤ 2099 → dated year month day ≡ Ok date → IsExpiry date
dated_is_expiry year month day date from until h = grind (arith, nat_tests, pos, kept_day)

-- what is read is a date of the range
pub read_expiry_is_expiry : (t : List ℕ) (date : CivilDate) → read_expiry t ≡ Ok date → IsExpiry date
read_expiry_is_expiry t date h =
    let year = two_digits_below t 0 in
    let kept = dated_is_expiry (2000 + two_digits_at 0 t) (two_digits_at 2 t) (two_digits_at 4 t) date in
    grind (arith, year, kept)

-- a date's text is read as the date
pub read_expiry_text : (d : CivilDate) → IsExpiry d → read_expiry (expiry_text d) ≡ Ok d
read_expiry_text d h = grind (arith, nat_tests)

-- ---- What is read as a moment

-- what is read is a moment
pub read_moment_is_moment : (seconds moment : ℕ) → read_moment seconds ≡ Ok moment → IsMoment moment
read_moment_is_moment seconds moment h = grind arith

-- a moment is read as it stands
pub read_moment_of : (moment : ℕ) → IsMoment moment → read_moment moment ≡ Ok moment
read_moment_of moment h = grind (arith, nat_tests)
