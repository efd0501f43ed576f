-- The names that proofs of this crate cite, passed on from one place. Declares nothing.
pub use Rattle.pe_core.proofs.Comparisons.{or_false}
pub use Rattle.pe_core.proofs.EntryItems.{count_of_whole_entries, get_or-each}
pub use Rattle.pe_core.proofs.Equality.{both}
pub use Rattle.pe_core.proofs.Map.{found_passes}
pub use Rattle.pe_core.proofs.NoMemory.{Lacks, if_lacks, is_memory, one_test_lacks, outcome_lacks, then_lacks}
pub use Rattle.pe_core.proofs.Ranges.{length_range}
pub use Rattle.pe_core.proofs.Steps.{then_then}
pub use Rattle.pe_core.specs.Bytes.{holds, range}
unfoldable pub use Rattle.pe_core.specs.Bytes.{le}
pub use Rattle.pe_core.specs.CountedTable.{u32_of}
pub use Rattle.pe_core.specs.Refusals.{Arm64Cut, Memory, Refusal, Short, answer_of, kind_of, outcome, ◌>>=◌}
pub use Rattle.pe_core.specs.Rows.{whole_entries}
unfoldable pub use Rattle.pe_core.specs.Rows.{each}
pub use Rattle.pe_core.specs.SectionMap.{mapped}
pub use Rattle.pe_core.specs.declared.error.Error.{Error}
pub use Rattle.pe_core.specs.declared.error.Error.TheVariants.{Malformed}
pub use Rattle.pe_core.specs.declared.section_table.SectionTable.{SectionTable}
pub use Rattle.pe_frame.specs.Arm64CodeLists.{Adds, extended}
pub use Rattle.pe_frame.specs.Arm64Frames.{Arm64Part, IsArm64Frame, effects_at}
pub use Rattle.pe_frame.specs.Arm64Machine.{Arm64Machine, IsArm64Body, IsArm64Caller, IsArm64Entered, IsArm64Prolog, KeepsFramePointer, KeepsStackPointerArm64, caused, held, run_arm64, sets_frame_pointer, stored_at, stores, stores_float}
pub use Rattle.pe_frame.specs.Arm64Operations.{Arm64Effect, Lower, SetFramePointer, SignLink, Store, all_effects, effects_of, is_register, is_save_next, next_operation, operation_in, operation_of, operations, pair_after, store_some}
pub use Rattle.pe_frame.specs.Arm64Packed.{alone_codes, canonical_codes, epilog_codes, float_pair, float_pairs, frame_codes, freed_codes, home_codes, integer_pair, integer_pairs, is_canonical, is_chained, last_float, last_integers, left_after, packed_codes, packed_frame, packed_left, packed_length, point_codes, saved_codes, sign_codes, stepped_arm64_packed}
pub use Rattle.pe_frame.specs.Arm64Reading.{IsFirstCode, ReadsCodes, StepsIn, read_only, with_nexts}
pub use Rattle.pe_frame.specs.Arm64Samples.{all_known_arm64, arm64_registers_of, chained_bytes, chained_part, packed_data, packed_part, sample_arm64_machine, signed_bytes, signed_part, stopped}
pub use Rattle.pe_frame.specs.Arm64Steps.{AreOver, AreTruncated, CodesThen, HasArm64Codes, IsOfTruncated, Leaves, LeavesIn, StepsArm64, StepsOutArm64, epilog_after, epilog_start, is_end, is_end_c, last_scope, left_in_epilog, prolog_length, ran_arm64}
pub use Rattle.pe_frame.specs.Arm64Undoing.{caller_by_codes, caller_by_list, context_offset, context_register, entry_by, entry_of, frame_pointer, joined, link_register, put_pc, put_saved, put_sp, returned_arm64, reverted, reverted_all, stripped, undone_as, undone_codes}
unfoldable pub use Rattle.pe_frame.specs.Arm64Undoing.{context_stores}
pub use Rattle.pe_frame.specs.Arm64Walks.{AreModulesOfBytes, Calls, CallsBy, CallsByInfo, CallsFound, CallsIn, HasBytes, IsModuleOfBytes, called_frame, caller_in_code, caller_without_table, jumped_frame, length_in, lookup_address, place_of, returned_to, stepped_out_packed}
pub use Rattle.pe_frame.specs.EpilogFrames.{AreReady, AreRestored, Exits, Frees, FreesAndPops, IsBack, IsEpilogOfParts, IsReady, Leads, LeadsBack, Pops, allocated, moves, pushes}
pub use Rattle.pe_frame.specs.Epilogs.{StepsFrom, StepsOut, StepsWithCode, epilog_at, executed, executed_all, frame_register_of, function_start, is_frame_register, lies_in_parents, most_pops, moved, run_out, tail_at}
unfoldable pub use Rattle.pe_frame.specs.Epilogs.{add_at, after_pops, exit_at, jump_at, lea_at, marked_jump, operand, pop_at, popped_first, return_number, unmarked_jump}
pub use Rattle.pe_frame.specs.FrameRecords.{IsFrameRecord, caller_of_record, frame_record, is_higher, may_lead, record_with}
pub use Rattle.pe_frame.specs.FrameWalks.{Advances, AdvancesBy, Follows, FollowsBy, FrameWalk, IsWalk, IsWalkBy, Process, returned_frame, starting_walk, walk_after}
pub use Rattle.pe_frame.specs.Frames.{AreFrames, FallsFrom, IsAfter, IsCaller, IsInOrder, IsRecord, Part, SavesOrKeeps, StopsIn, infos, is_of_epilog, left, prolog_codes, registers_of, restored, restored_xmm}
pub use Rattle.pe_frame.specs.FunctionSteps.{StepsInFunction, StepsUpTo}
pub use Rattle.pe_frame.specs.InPlace.{changed, changed_with}
pub use Rattle.pe_frame.specs.Jumps.{IsEntry, IsPlace, IsPlaceIn, LeavesFor, LeavesForFound, Place, StepsInImage, StepsInImageFrom, before_last, direct_target, place_in, place_with, rising_out, target_of}
pub use Rattle.pe_frame.specs.Machine.{Apart, IsBody, IsEntered, IsFrameRegister, IsProlog, KeepsStackPointer, Machine, MayFollow, MayMove, MaySave, PushesLate, SavesNone, base, base_by, chosen, done, loaded, machine_stack_pointer, number_at, return_slots, run, saves, saves_xmm, slots, stored}
pub use Rattle.pe_frame.specs.Memory.{stack_word}
pub use Rattle.pe_frame.specs.MemoryLists.{AreListed, ArePieces, IsPiece, are_inside, ascend, has_word, list_byte, listed_byte, listed_word, lists_byte}
pub use Rattle.pe_frame.specs.MemoryPieces.{ArePiecesOf, byte_in, has_byte, have_byte, known_bytes, known_word, piece_size, pieces_word}
pub use Rattle.pe_frame.specs.Modules.{executes, is_after_call, is_after_call_arm64, is_after_call_arm64_of, is_after_call_of, is_code_of, is_code_return, is_code_return_arm64, is_code_return_arm64_of, is_code_return_of, is_in_unknown, is_unknown, map_of_module, may_end_call, module_at, module_base, module_size}
unfoldable pub use Rattle.pe_frame.specs.Modules.{is_executable}
pub use Rattle.pe_frame.specs.Samples.{all_known, framed_part, home_part, inner_part, interrupt_part, late_part, pushed_part, told_part}
pub use Rattle.pe_frame.specs.Scans.{IsFirstReturn, IsHighestCall, call_at, higher_call, most_words, return_at}
unfoldable pub use Rattle.pe_frame.specs.Scans.{first_return, highest_call}
pub use Rattle.pe_frame.specs.SearchedMemory.{no_piece, piece_found, pieces_started, searched_byte, searched_word, shows_byte, word_by}
unfoldable pub use Rattle.pe_frame.specs.SearchedMemory.{piece_shown}
pub use Rattle.pe_frame.specs.Steps.{Enters, ErrorKind, HasCodes, OfCodes, Steps, Then, UndoesFunction, UndoesRecords, by_kind, error_kind, frame_register_in, known_codes, limit_of, registers_alone, returned, returned_out, rising}
pub use Rattle.pe_frame.specs.Survey.{IsExpectedBase, IsFrequent, SurveysCodes, SurveysUndone, UndoesFirst, all_undone, joined_surveys, nothing_known, survey_with, surveyed, undone_code}
pub use Rattle.pe_frame.specs.Tails.{alone, instructions_of}
pub use Rattle.pe_frame.specs.Undoing.{FrameRegister, above, any_sets_frame_register, bytes_above, entered, error_size, frame_base_of, interrupts, is_interrupted, number, popped, put_register, put_rip, put_xmm, raised, ran, require_integer, sets_frame_register, stack_pointer, undone, undone_all}
pub use Rattle.pe_frame.specs.Walks.{AreSortedModules, CallsByPlan, HasSortedTable, IsGap, IsSortedModule, IsUnreadable, OfError, OfRecords, after_leaf, by_end_kind, by_records, by_words, called_in_gap, caller_in_gap, caller_of_leaf, caller_outside, chained, code_of_frame, code_return, end_at_0, end_kind, found_by_ranges, found_outside, frame_after, frame_of, gap_of, has_called, is_bottom, is_leaf_return, leaf_frame, leaf_if, leaf_is_guess, leaf_without_image, lower_frame, record_of, record_return, returned_by, scanned, scanned_by, scanned_in_gap, top_frame, walk_of, without_records}
pub use Rattle.pe_frame.specs.declared.arm64.entry.Arm64Entry.{Arm64Entry}
pub use Rattle.pe_frame.specs.declared.arm64.epilog.Arm64Epilog.{Arm64Epilog}
pub use Rattle.pe_frame.specs.declared.arm64.operation.Arm64Operation.{Arm64Operation}
pub use Rattle.pe_frame.specs.declared.arm64.operation.Arm64Operation.TheVariants.{Allocate, Save, SetFrame}
pub use Rattle.pe_frame.specs.declared.arm64.operation.Arm64Register.{Arm64Register}
pub use Rattle.pe_frame.specs.declared.arm64.operation.Arm64Register.TheVariants.{D, X}
pub use Rattle.pe_frame.specs.declared.arm64.packed.PackedFrame.{PackedFrame}
pub use Rattle.pe_frame.specs.declared.arm64.registers.Arm64Registers.{Arm64Registers}
pub use Rattle.pe_frame.specs.declared.arm64.walk.Arm64StackFrame.{Arm64StackFrame}
pub use Rattle.pe_frame.specs.declared.chain.FrameRecord.{FrameRecord}
pub use Rattle.pe_frame.specs.declared.epilog.Instruction.{Instruction}
pub use Rattle.pe_frame.specs.declared.epilog.Instruction.TheVariants.{Add, Jump, Lea, Pop, Return}
pub use Rattle.pe_frame.specs.declared.error.FrameError.{FrameError}
pub use Rattle.pe_frame.specs.declared.error.FrameError.TheVariants.{Arm64Code, Codes, NotRising, Operation}
pub use Rattle.pe_frame.specs.declared.memory.Stack.{Stack}
pub use Rattle.pe_frame.specs.declared.memory_list.MemoryPiece.{MemoryPiece}
pub use Rattle.pe_frame.specs.declared.modules.Module.{Module}
pub use Rattle.pe_frame.specs.declared.record.Survey.{Survey}
pub use Rattle.pe_frame.specs.declared.registers.Registers.{Registers}
pub use Rattle.pe_frame.specs.declared.scan.FoundCall.{FoundCall}
pub use Rattle.pe_frame.specs.declared.walk.Gap.{Gap}
pub use Rattle.pe_frame.specs.declared.walk.StackFrame.{StackFrame}
pub use Rattle.pe_frame.specs.declared.walk.WalkEnd.{WalkEnd}
pub use Rattle.pe_frame.specs.declared.walk.Way.{Way}
pub use Rattle.pe_frame.specs.declared.walk.Way.TheVariants.{FramePointer, Interrupt, Leaf, Records, Scanned}
pub use Rattle.pe_lookup.proofs.Halving.{counted}
pub use Rattle.pe_lookup.proofs.Lookups.{ascends, ends_before, found_of_all, has_it, is_within, none_starts, range_found, range_missed, starts_after, starts_rise, test_ascends, test_passed}
pub use Rattle.pe_lookup.specs.AddressRanges.{AreAscending, IsCountUpTo, has_address}
pub use Rattle.pe_lookup.specs.SectionIndexes.{numbered}
pub use Rattle.pe_lookup.specs.SectionSearch.{memory_size, no_section, section_start, sections_started}
pub use Rattle.pe_plan.proofs.Chains.{one_more}
pub use Rattle.pe_plan.proofs.Endings.{follows_same, no_record}
pub use Rattle.pe_plan.proofs.OnePlan.{one_plan}
pub use Rattle.pe_plan.proofs.PlanRooms.{short_refusal}
pub use Rattle.pe_plan.proofs.RecordLaw.{RecordLaw}
pub use Rattle.pe_plan.proofs.ShortPlans.{plan_longer, refused_at_once}
pub use Rattle.pe_plan.specs.Plans.{IsChain}
pub use Rattle.pe_plan.specs.ShortPlans.{PlansShort, most_records, records_of}
pub use Rattle.pe_plan.specs.declared.short_plan.ShortPlan.{ShortPlan}
pub use Rattle.pe_unwind.proofs.Arm64OneCode.{cut_starts_none, starts_once}
pub use Rattle.pe_unwind.proofs.Arm64Whole.{code_or_cut}
pub use Rattle.pe_unwind.proofs.Searches.{SearchesAt, ends, entry_ends, entry_is, finds_inside, finds_none, finds_past, goes_down, goes_up, last_or-append, starts}
pub use Rattle.pe_unwind.proofs.SpellingLengths.{starts_2, starts_4, word_at_2}
pub use Rattle.pe_unwind.proofs.Streams.{one_code, one_reading, some_items, starts_some}
pub use Rattle.pe_unwind.specs.Arm64Encoding.{IsTruncatedArm64Code, StartsWithArm64Code, encoding}
pub use Rattle.pe_unwind.specs.Arm64Functions.{is_packed}
unfoldable pub use Rattle.pe_unwind.specs.Arm64Functions.{arm64_functions}
pub use Rattle.pe_unwind.specs.Arm64Lookup.{FindsArm64, if_long_enough, length_by, length_in_record}
pub use Rattle.pe_unwind.specs.Arm64Record.{Arm64InfoView, code_words, extension_at, info_tests, info_view, info_with, scope_count, scopes_offset}
unfoldable pub use Rattle.pe_unwind.specs.Arm64Record.{info_at}
pub use Rattle.pe_unwind.specs.Arm64Unwinding.{info_at_offset, info_by}
pub use Rattle.pe_unwind.specs.Arm64Words.{bits}
pub use Rattle.pe_unwind.specs.CodeStream.{AreItems, CodeStream, ReturnsCode, with_left}
pub use Rattle.pe_unwind.specs.ExceptionTable.{ExceptionView, table_of}
pub use Rattle.pe_unwind.specs.FunctionTable.{Finds, NeverFalls, function_at}
unfoldable pub use Rattle.pe_unwind.specs.FunctionTable.{functions}
pub use Rattle.pe_unwind.specs.Links.{Table, links_with}
pub use Rattle.pe_unwind.specs.Lookup.{FindsStart, StartsAfter}
unfoldable pub use Rattle.pe_unwind.specs.Lookup.{StopsAfter}
pub use Rattle.pe_unwind.specs.UnwindCodes.{integer}
pub use Rattle.pe_unwind.specs.UnwindRecord.{UnwindInfoView, code_stream, unwind_view}
pub use Rattle.pe_unwind.specs.Unwinding.{Unwinds}
pub use Rattle.pe_unwind.specs.declared.arm64.codes.Arm64UnwindCode.{Arm64UnwindCode}
pub use Rattle.pe_unwind.specs.declared.arm64.codes.Arm64UnwindCode.TheVariants.{End, EndC, Nop, PacSignLr, SaveNext, SetFp}
pub use Rattle.pe_unwind.specs.declared.arm64.function.Arm64RuntimeFunction.{Arm64RuntimeFunction}
pub use Rattle.pe_unwind.specs.declared.function_table.RuntimeFunction.{RuntimeFunction}
pub use Rattle.pe_unwind.specs.declared.register.Register.{Register}
pub use Rattle.pe_unwind.specs.declared.unwind_code.StackFrameOffset.{StackFrameOffset}
pub use Rattle.pe_unwind.specs.declared.unwind_code.UnwindCode.{UnwindCode}
pub use Rattle.pe_unwind.specs.declared.unwind_code.UnwindOperation.{UnwindOperation}
pub use Rattle.pe_unwind.specs.declared.unwind_code.UnwindOperation.TheVariants.{Alloc, Epilog, Noop, PushMachineFrame, PushNonVolatile, SaveNonVolatile, SaveXMM, SaveXMM128, SetFPRegister}
pub use Rattle.pe_unwind.specs.declared.unwind_info.UnwindInfo.{UnwindInfo}
pub use Rattle.std.proofs.Math.Path.{fun_ext}
pub use Rattle.std.proofs.lemmas.Bool.{cases_lt, eqb-true, lt-ltb, or_right}
pub use Rattle.std.proofs.lemmas.Bool.Decides.{eqb_tells, leb_tells, nat_tests}
pub use Rattle.std.proofs.lemmas.List.{drop-drop, drop_all, get_or-drop, get_or-set_other, get_or-set_same, get_or-take, get_or_default, length-drop, length-set, nil_from_length, set-get_or, set-set, take-append-drop, take_all, take_at, take_more, take_more_set, take_rest}
pub use Rattle.std.proofs.lemmas.List.Elements.{All-append, All-drop, All-head, All-nil, All-same, All-tail, All-take, Contains-append_right}
pub use Rattle.std.proofs.lemmas.List.Folds.{list_any_at}
pub use Rattle.std.proofs.lemmas.Nat.{from_le_bytes-to_le_bytes_8}
pub use Rattle.std.proofs.lemmas.Result.{err_from_is_err_and}
pub use Rattle.std.specs.Borrow.{Bor}
pub use Rattle.std.specs.Iterator.{Yields}
pub use Rattle.std.specs.List.{AllByRecursion, Contains, filter, find, last_or, list_any}
pub use Rattle.std.specs.Option.{is_none, is_some, option_and_then, option_map, option_map_or, option_or}
pub use Rattle.std.specs.Prelude.{IfSome, IsSome, IsTrue, if◌then◌else◌, nat_lt, slice_index}
