-- The names that proofs of this crate cite, passed on from one place. Declares nothing.
pub use Rattle.std.proofs.lemmas.Bool.{eqb-true, cases_Bool, cases_lt, cases_eq}
pub use Rattle.std.proofs.lemmas.Bool.Decides.{nat_tests}
pub use Rattle.std.proofs.lemmas.List.{drop_all, drop-drop, append_assoc, append-nil, length-take-le, take-append-drop}
pub use Rattle.std.specs.List.{slice_get, AllZip, list_any}
pub use Rattle.std.specs.Prelude.{◌==◌, nat_le, if◌then◌else◌, slice_index, min, nat_lt, IfSome}
pub use Rattle.calls_base.proofs.FilledLists.{StepsAs, hands_out_as, numbered_as, ends_list, hands_out_if, kept_more, takes_as, written_more}
pub use Rattle.calls_base.proofs.LeftBytes.{bytes_of_range, bytes_there, left_after, nothing_there, same_range, size_of}
pub use Rattle.calls_base.specs.HandsOut.{result_number, HandsOut}
pub use Rattle.calls_base.specs.Images.{map_of_image}
pub use Rattle.calls_base.specs.Lists.{HandsOutList, Numbered, StepsByIndex, by_number, if_there, HandsOutListIf, Stops}
pub use Rattle.calls_base.specs.Modes.{options_of}
pub use Rattle.calls_base.specs.Ranges.{range_after, bytes_at, no_bytes, one_if_some, IsRange}
pub use Rattle.calls_base.specs.Runs.{ReturnsItems, IsOver}
pub use Rattle.calls_base.specs.declared.image.Image.{Image}
pub use Rattle.calls_base.specs.declared.ranges.Range.{Range}
pub use Rattle.calls_base.specs.declared.results.TheConstants.{DONE, ROOM}
pub use Rattle.calls_unwind.specs.Arm64.{StepsArm64Codes, StepsOverArm64, WalksInArm64, arm64_walk_at, flat_arm64, flat_arm64_item, flat_info, left_of_stream, over_arm64, arm64_record_in, arm64_record_of, arm64_function_in, arm64_handler_range, AnswersArm64Code}
pub use Rattle.calls_unwind.specs.CodeBytes.{IsFrequent, ReturnsAny, StepsBytes, stream_in, stream_last, EndsCodes, HasCodes, PutsCodes}
pub use Rattle.calls_unwind.specs.Unwinding.{StepsCodes, StepsOver, WalksIn, code_stream_at, flat_answer, left_of, plain, flat, flat_item, flat_record, FindsOffset, HandsOutRecord, flat_record_at, links_at, FollowsToRecord, or_no_function, function_in, handler_range, HandsOutCode, image_exceptions, LocatesIn}
unfoldable pub use Rattle.calls_unwind.specs.Unwinding.{exception_table_at}
pub use Rattle.calls_unwind.specs.declared.arm64.codes.Arm64Code.{Arm64Code}
pub use Rattle.calls_unwind.specs.declared.arm64.codes.Arm64CodeWalk.{Arm64CodeWalk}
pub use Rattle.calls_unwind.specs.declared.lists.x64.CodeBytes.{CodeBytes}
pub use Rattle.calls_unwind.specs.declared.lists.x64.PutCodes.{PutCodes}
pub use Rattle.calls_unwind.specs.declared.unwinding.Code.{Code}
pub use Rattle.calls_unwind.specs.declared.unwinding.CodeWalk.{CodeWalk}
pub use Rattle.calls_unwind.specs.declared.unwinding.UnwindRecord.{UnwindRecord}
pub use Rattle.calls_unwind.specs.declared.unwinding.plan.Plan.{Plan}
pub use Rattle.pe_core.specs.Bytes.{AreBytes}
unfoldable pub use Rattle.pe_core.specs.Bytes.{le}
pub use Rattle.pe_core.specs.Refusals.{Refusal, Arm64Cut, outcome, ◌>>=◌, kind_of, Memory, FunctionCycle, FunctionIndex}
pub use Rattle.pe_core.specs.SectionMap.{section_map, covers, mapped, raw_start}
unfoldable pub use Rattle.pe_core.specs.SectionMap.{offset_of}
pub use Rattle.pe_core.specs.declared.error.Error.{Error}
pub use Rattle.pe_core.specs.declared.section_table.SectionTable.{SectionTable}
pub use Rattle.pe_unwind.proofs.Offsets.{given}
pub use Rattle.pe_unwind.proofs.Streams.{one_code, one_reading}
pub use Rattle.pe_unwind.specs.CodeStream.{CodeStream, ReturnsCode, stream_of, with_left, AreItems}
pub use Rattle.pe_unwind.specs.ExceptionTable.{ExceptionView, function_of}
unfoldable pub use Rattle.pe_unwind.specs.ExceptionTable.{exception_at}
pub use Rattle.pe_unwind.specs.Links.{Table, linked_table, links_of}
pub use Rattle.pe_unwind.specs.UnwindCodes.{integer, StartsWithCode}
pub use Rattle.pe_unwind.specs.UnwindRecord.{UnwindInfoView, unwind_tests, unwind_record, HandlerView}
pub use Rattle.pe_unwind.specs.declared.function_table.RuntimeFunction.{RuntimeFunction}
pub use Rattle.pe_unwind.specs.declared.unwind_code.UnwindCode.{UnwindCode}
