-- Times. (RFC 5280: 4.1.2.5; X.680: 46 and 47; RFC 3161: 2.4.2.) `t` is the content of a UTCTime or a GeneralizedTime.
use Rattle.std.specs.Prelude.{ℕ, ◌+◌, ◌-◌, ◌*◌, ◌==◌, ◌&&◌, ◌||◌, List, [], ◌∷◌, length, take, Bool, nat_le, nat_lt, slice_index, slice_range, not, Option, Some, None, Result, Err, if◌then◌else◌}
use Rattle.std.specs.List.{list_all}
use Rattle.pe_core.specs.Refusals.{outcome}
use Rattle.pe_pkcs7.specs.Fields.{content_bytes}
use Rattle.pe_pkcs7.specs.Tags.{UTC_TIME, GENERALIZED_TIME}
use Rattle.pe_pkcs7.specs.declared.der.Element.{Element}
use Rattle.pe_pkcs7.specs.declared.time.Time.{Time}
use Rattle.pe_pkcs7.specs.declared.error.SignatureError.{SignatureError}
use Rattle.pe_pkcs7.specs.declared.error.SignatureError.TheVariants.{BadTime}

-- a decimal digit
abbrev pub is_digit : ℕ → Bool
is_digit c = nat_le 48 c && nat_le c 57

-- the number that two decimal digits are
unfoldable pub two_digits : List ℕ → ℕ → ℕ
two_digits t p = 10 * (slice_index t p - 48) + (slice_index t (p + 1) - 48)

-- the time whose month and what follows it are two digits each, from p on
unfoldable pub time_from : ℕ → List ℕ → ℕ → Time
time_from year t p = record {
  year = year;
  month = two_digits t p;
  day = two_digits t (p + 2);
  hour = two_digits t (p + 4);
  minute = two_digits t (p + 6);
  second = two_digits t (p + 8);
}

-- numbers that a calendar and a clock have
abbrev pub is_time : Time → Bool
is_time x =
    nat_le 1 x.month && nat_le x.month 12 && nat_le 1 x.day && nat_le x.day 31 && nat_lt x.hour 24 && nat_lt x.minute 60 && nat_lt x.second 60

-- YYMMDDHHMMSSZ: of the years 1950 to 2049
abbrev pub utc_year : ℕ → ℕ
utc_year y = if nat_lt y 50 then 2000 + y else 1900 + y

unfoldable pub utc_time : List ℕ → Option Time
utc_time t =
    if length t == 13 && list_all is_digit (take 12 t) && slice_index t 12 == 90
    then Some (time_from (utc_year (two_digits t 0)) t 2) else None

-- a fraction of a second is a dot and decimal digits, the last of which is not 0, before the Z (X.690: 11.7.3)
unfoldable pub has_fraction : List ℕ → Bool
has_fraction t =
    slice_index t 14 == 46 && nat_le 17 (length t) && list_all is_digit (slice_range t 15 (length t - 1))
    && not (slice_index t (length t - 2) == 48)

-- YYYYMMDDHHMMSSZ, or with a fraction of a second before the Z, which is left out
unfoldable pub generalized_time : List ℕ → Option Time
generalized_time t =
    if nat_le 15 (length t) && list_all is_digit (take 14 t) && slice_index t (length t - 1) == 90 && (length t == 15 || has_fraction t)
    then Some (time_from (100 * two_digits t 0 + two_digits t 2) t 4) else None

-- the time in a content, by the tag of the element
abbrev pub time_by_tag : ℕ → List ℕ → Option Time
time_by_tag tag t = if tag == UTC_TIME then utc_time t else if tag == GENERALIZED_TIME then generalized_time t else None

abbrev pub or_bad_time : ℕ → Option Time → Result Time SignatureError
or_bad_time p None = Err (BadTime p)
or_bad_time p (Some x) = outcome ((is_time x, BadTime p) ∷ []) x

-- the time that an element is
unfoldable pub time_of : List ℕ → Element → Result Time SignatureError
time_of b x = or_bad_time x.offset (time_by_tag x.tag (content_bytes b x))
