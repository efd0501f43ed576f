use Rattle.pe_plan.proofs.RecordLaw.{RecordLaw}
use Rattle.pe_frame.proofs.Jumps.{returned_by_entry, returned_in_image}
use Rattle.pe_frame.proofs.laws.jumps.epilogs_return_to_the_caller_in_images.Goals as goal

pub returns : goal.returns
returns c =
    let law : RecordLaw = record {
      exists = c.one_record_of_addresses.ensures.exists;
      one = c.one_record_of_addresses.ensures.one;
      cycle = c.one_record_of_addresses.ensures.cycle;
      no_memory = c.one_record_of_addresses.ensures.no_memory;
    } in
    record {
      left = λ s p parts before rest i g h at sorted to x.
          returned_in_image law s.exceptions s.rva_map s.memory p parts before rest i s.start s.rva s.code g h x at.frames at.epilog at.ready at.ran at.left sorted to;
      entered = λ s p parts before rest i g h at sorted to x.
          returned_by_entry law s.exceptions s.rva_map to.target s.memory p parts before rest i s.start s.rva s.code g h to.last x at.frames at.epilog at.ready at.ran at.left sorted to.place to.entry to.ran to.count;
    }
