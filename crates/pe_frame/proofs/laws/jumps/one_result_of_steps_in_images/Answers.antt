use Rattle.std.proofs.Common.{◌-◌}
use Rattle.pe_frame.proofs.Cited.{RecordLaw, epilog_at}
use Rattle.pe_frame.proofs.Jumps.{one_in_image, some_in_image}
use Rattle.pe_frame.proofs.laws.jumps.one_result_of_steps_in_images.Goals as goal

pub returns : goal.returns
returns c =
    let law : RecordLaw = record {
      exists = c.one_record_of_addresses.ensures.exists;
      one = c.one_record_of_addresses.ensures.one;
      cycle = c.one_record_of_addresses.ensures.cycle;
      no_memory = c.one_record_of_addresses.ensures.no_memory;
    } in
    record {
      exists = λ s plan g. some_in_image law s.exceptions s.rva_map (epilog_at plan s.start s.rva s.code) s.memory plan (s.rva - s.start) g;
      one = λ s plan g x y sorted h k.
          one_in_image law s.exceptions s.rva_map (epilog_at plan s.start s.rva s.code) s.memory plan (s.rva - s.start) g x y sorted h k;
    }
