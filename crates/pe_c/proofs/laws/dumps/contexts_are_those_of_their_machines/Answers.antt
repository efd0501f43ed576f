use Rattle.std.proofs.Common.{refl}
use Rattle.calls_stacks.specs.DumpContexts.{context_arm64_at, context_x64_at}
use Rattle.pe_c.proofs.DumpFields.{of_context}
use Rattle.pe_c.proofs.laws.dumps.contexts_are_those_of_their_machines.Goals as goal

pub returns-clause-x64 : goal.returns-clause-x64
returns-clause-x64 c b l number old new h = of_context (λ x. record old { x64 = x }) (λ a. a.x64) number old new (context_x64_at b l) (λ x. refl) h

pub returns-clause-arm64 : goal.returns-clause-arm64
returns-clause-arm64 c b l number old new h = of_context (λ x. record old { arm64 = x }) (λ a. a.arm64) number old new (context_arm64_at b l) (λ x. refl) h
