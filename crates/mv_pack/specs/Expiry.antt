-- Expiry dates, as texts of six digits, by the GS1 General Specifications, and as days.
use Rattle.std.specs.Prelude.{◌≡◌, ℕ, ◌+◌, ◌-◌, ◌*◌, ◌≤◌, ◌==◌, ◌&&◌, Bool, IsTrue, List, [], ◌∷◌, ◌++◌, ◌/◌, ◌%◌, length, nat_le, if◌then◌else◌, Result, Ok, Err, ℤ, pos, int_lt, slice_index}
use Rattle.mv_pack.specs.Words.{Date, PackFault, list_all}
use Rattle.jiff_core.specs.Calendar.{days_in_month, days_from_civil}
use Rattle.mv_pack.specs.Gtin.{is_digit}

-- a day of the Gregorian calendar
pub record CivilDate : Type 0 where
  pub year : ℕ
  pub month : ℕ
  pub day : ℕ

-- a real date of the years 2000 to 2099
abbrev pub IsExpiry : CivilDate → Type 0
IsExpiry date =
    (2000 ≤ date.year) × (date.year ≤ 2099) × (1 ≤ date.month) × (date.month ≤ 12)
    × (1 ≤ date.day) × (date.day ≤ days_in_month (pos date.year) date.month)

-- the number of the day, 1970-01-01 being 0
abbrev pub day_of : CivilDate → ℤ
day_of date = days_from_civil (pos date.year) date.month date.day

-- the seconds of a day
abbrev pub seconds_of_day : ℕ
seconds_of_day = 86400

-- the date lies before the day of a moment, in seconds since 1970-01-01T00:00:00Z
abbrev pub is_expired_at : CivilDate → ℕ → Bool
is_expired_at date seconds = int_lt (day_of date) (pos (seconds / seconds_of_day))

-- the number that the two digits from a place on stand for
abbrev pub two_digits_at : ℕ → List ℕ → ℕ
two_digits_at place text = 10 * (slice_index text place - 48) + (slice_index text (place + 1) - 48)

-- a month of a year has this day, or the day is 0
abbrev pub IsDayOrZero : ℕ → ℕ → ℕ → Type 0
IsDayOrZero year month day =
    (1 ≤ month) × (month ≤ 12) × (day ≤ days_in_month (pos year) month)

-- the text is six digits YYMMDD, the year being 20YY, of a real date or of a month and the day 00
abbrev pub IsExpiryText : List ℕ → Type 0
IsExpiryText text =
    (length text ≡ 6) × IsTrue (list_all is_digit text)
    × IsDayOrZero (2000 + two_digits_at 0 text) (two_digits_at 2 text) (two_digits_at 4 text)

-- The date of a year, a month and a day, where there is one; the day 0 is the last of the month.
abbrev pub dated : ℕ → ℕ → ℕ → Result CivilDate PackFault
dated year month day =
    if nat_le 1 month && nat_le month 12 && nat_le day (days_in_month (pos year) month)
    then Ok (record {
      year = year;
      month = month;
      day = if day == 0 then days_in_month (pos year) month else day;
    })
    else Err Date

-- What reading a text gives: the date of six digits YYMMDD, the year being 20YY, or the fault.
abbrev pub read_expiry : List ℕ → Result CivilDate PackFault
read_expiry text =
    if (length text == 6) && list_all is_digit text
    then dated (2000 + two_digits_at 0 text) (two_digits_at 2 text) (two_digits_at 4 text)
    else Err Date

-- a number below 100 as two digits
abbrev pub two_digits : ℕ → List ℕ
two_digits number = (number / 10 + 48) ∷ (number % 10 + 48) ∷ []

-- the date as six digits YYMMDD
abbrev pub expiry_text : CivilDate → List ℕ
expiry_text date = two_digits (date.year - 2000) ++ two_digits date.month ++ two_digits date.day
