-- Why bytes could not be read.
use Rattle.peinfo.specs.declared.input.ReadError.{ReadError}
use Rattle.peinfo.specs.declared.input.ReadError.TheVariants as errors

-- if the reader was given up as endless, this holds
abbrev pub IfEndless : ReadError → Type 0 → Type 0
IfEndless (errors.Failed e) P = Unit {0}
IfEndless errors.Memory P = Unit {0}
IfEndless errors.Endless P = P
