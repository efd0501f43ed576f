use Rattle.pe_pdb.proofs.Blocks.{parsed}
use Rattle.pe_pdb.proofs.file.Msf.parse.Goals as goal

pub with_directory-requires-clause-size : goal.with_directory-requires-clause-size
with_directory-requires-clause-size c = (parsed c.args.bytes.now c.in_ok-header.header c.in_ok-header.ensures).0

pub with_directory-requires-clause-inside : goal.with_directory-requires-clause-inside
with_directory-requires-clause-inside c = (parsed c.args.bytes.now c.in_ok-header.header c.in_ok-header.ensures).1
