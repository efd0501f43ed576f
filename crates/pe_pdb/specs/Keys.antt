-- The key by which an image names its PDB.
use Rattle.pe_pdb.specs.declared.dbi.DbiHeader.{DbiHeader}
use Rattle.pe_pdb.specs.declared.info.PdbInfo.{PdbInfo}
use Rattle.pe_pdb.specs.declared.key.PdbKey.{PdbKey}

-- the GUID of the info stream, and the age of the DBI stream
abbrev pub key_of : PdbInfo → DbiHeader → PdbKey
key_of i d = record { guid = i.guid; age = d.age }
