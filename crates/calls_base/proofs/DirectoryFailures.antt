-- What a call returns agrees with what refuses it.
use Rattle.std.proofs.Common.{Option, Result, arith}
use Rattle.pe_core.specs.Refusals.{Refusal}
use Rattle.pe_directories.specs.DirectoryRefusals.{DirectoryRefusal}
use Rattle.pe_resource.specs.Leaves.{TreeRefusal}
use Rattle.calls_base.specs.FailureNumbers.{AllAgree, DirectoriesAgree, TreesAgree, directory_refused, refused, tree_refused}

pub agree : {X : Type 0} (answer : Result (Option X) Refusal) → AllAgree answer (refused answer)
agree answer = grind arith

pub directories_agree : {X : Type 0} (answer : Result (Option X) DirectoryRefusal) → DirectoriesAgree answer (directory_refused answer)
directories_agree answer = grind arith

pub trees_agree : {X : Type 0} (answer : Result (Option X) TreeRefusal) → TreesAgree answer (tree_refused answer)
trees_agree answer = grind arith
