use Rattle.pe_frame.specs.Walks.{Calls, walk_of}
use Rattle.pe_frame.proofs.FrameWalks.{whole}
use Rattle.pe_frame.proofs.laws.walks.walks_return_the_frames.Goals as goal

pub returns : goal.returns
returns g c s u frames h = whole Calls (walk_of g.M.Memory.word) _ (λ s r t step. step) s h.0 u frames h.1 h.2
