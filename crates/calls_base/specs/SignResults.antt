-- The results of calls that attach and detach certificates.
use Rattle.std.specs.Prelude.{ℕ}
use Rattle.pe_sign.specs.SignRefusals.{SignRefusal, Image, NoDirectory, TableNotLast, Headers, Section, TableOffset, TooLarge}
use Rattle.calls_base.specs.HandsOut.{result_number}

-- the number of a refusal of signing, written by tools/make_errors
abbrev pub sign_number : SignRefusal → ℕ
sign_number (Image refusal) = result_number refusal
sign_number NoDirectory = 201
sign_number TableNotLast = 202
sign_number Headers = 203
sign_number Section = 204
sign_number TableOffset = 205
sign_number TooLarge = 206
