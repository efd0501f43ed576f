use Rattle.std.proofs.Common.{rules, arith}
use Rattle.pe_directories.proofs.LoadedImages.{all_laid, none_laid, run_laid}
use Rattle.pe_directories.proofs.loaded_image.lay_out.Goals as goal

pub loop-rva-init : goal.loop-rva-init
loop-rva-init g c = none_laid _ _

pub loop-rva-preserved : goal.loop-rva-preserved
loop-rva-preserved g c =
    run_laid _ _ _ _ _ _ _ _ _ c.loop-rva.invariant c.run_at-run.ensures (search rules) c.put_run-rva.ensures.end c.put_run-rva.ensures.bytes

pub returns : goal.returns
returns g c = all_laid _ _ _ _ c.loop-rva.invariant (omega arith)
