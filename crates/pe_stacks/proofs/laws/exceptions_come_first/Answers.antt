use Rattle.pe_minidump.specs.Contexts.{context_arm64, context_x64}
use Rattle.pe_stacks.proofs.Headline.{own, raised, unread}
use Rattle.pe_stacks.proofs.laws.exceptions_come_first.Goals as goal

pub returns : goal.returns
returns c = record {
  raised = raised context_x64;
  unread = unread context_x64;
  own = own context_x64;
  raised_arm64 = raised context_arm64;
  unread_arm64 = unread context_arm64;
  own_arm64 = own context_arm64;
}
