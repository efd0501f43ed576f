-- Identifier octets of DER. (X.680 8.6, X.690 8.1.2.)
use Rattle.std.specs.Prelude.{ℕ, ◌+◌}

abbrev pub INTEGER : ℕ
INTEGER = 0x02

abbrev pub BIT_STRING : ℕ
BIT_STRING = 0x03

abbrev pub OCTET_STRING : ℕ
OCTET_STRING = 0x04

abbrev pub OBJECT_IDENTIFIER : ℕ
OBJECT_IDENTIFIER = 0x06

abbrev pub ENUMERATED : ℕ
ENUMERATED = 0x0A

abbrev pub UTC_TIME : ℕ
UTC_TIME = 0x17

abbrev pub GENERALIZED_TIME : ℕ
GENERALIZED_TIME = 0x18

abbrev pub BOOLEAN : ℕ
BOOLEAN = 0x01

-- SEQUENCE and SEQUENCE OF, whose content is elements
abbrev pub SEQUENCE : ℕ
SEQUENCE = 0x30

-- SET and SET OF
abbrev pub SET : ℕ
SET = 0x31

-- the tag [n] of a grammar where the content is elements: EXPLICIT, or IMPLICIT of a SEQUENCE or a SET
abbrev pub tagged : ℕ → ℕ
tagged n = 0xA0 + n

-- the tag [n] of a grammar where the content is no elements: IMPLICIT of a string
abbrev pub tagged_string : ℕ → ℕ
tagged_string n = 0x80 + n
