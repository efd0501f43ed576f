-- Where the parts of unwind records stand in the bytes that they were read from.
use Rattle.std.specs.Prelude.{ℕ, ◌+◌, ◌-◌, List, length, IfSome}
use Rattle.pe_core.specs.Offsets.{StandAt}
use Rattle.pe_unwind.specs.Arm64Record.{Arm64InfoView, scopes_offset}
use Rattle.pe_unwind.specs.UnwindRecord.{HandlerView, Exception, Termination, UnwindInfoView}

-- this part is the last of the bytes
abbrev pub StandLast : List ℕ → List ℕ → Type 0
StandLast b part = StandAt b (length b - length part) part

-- the data of a handler, which follow its RVA
abbrev pub handler_data_of : HandlerView → List ℕ
handler_data_of (Exception address d) = d
handler_data_of (Termination address d) = d

-- the codes of a record at offset p start 4 bytes after it, and its handler's data go to the end of the bytes
pub record UnwindPartsStand (b : List ℕ) (p : ℕ) (i : UnwindInfoView) : Type 0 where
  pub codes : StandAt b (p + 4) i.codes
  pub tail : IfSome i.handler (λ h. StandLast b (handler_data_of h))

-- the scopes of an ARM64 record at offset p follow its header and extension word, and its codes follow the scopes; its
-- handler's data go to the end of the bytes
pub record Arm64PartsStand (b : List ℕ) (p : ℕ) (i : Arm64InfoView) : Type 0 where
  pub scopes : StandAt b (scopes_offset p i.header) i.scopes
  pub codes : StandAt b (scopes_offset p i.header + length i.scopes) i.codes
  pub tail : IfSome i.handler (λ h. StandLast b h.bytes)
