use Rattle.std.proofs.Common.{rules, ◌<◌, ◌++◌, arith}
use Rattle.pe_edit.proofs.Cited.{leaf_views, contents, section_at}
use Rattle.pe_edit.proofs.Composed.{after_entries, after_first, after_languages, after_names, after_type_names, after_types, at_0, at_1, at_2, at_3, data_fits, first, first_fits, languages_fit, languages_low, layout_is, names_before, room_1, room_2, room_3, room_4, room_5, room_6, room_7, room_8, stage_4, stage_5, stage_6, stage_7, stage_8, types_fit, types_low}
use Rattle.pe_edit.proofs.Writing.{Written}
use Rattle.pe_edit.proofs.section.set_section.Goals as goal

pub overflow_add-first : goal.overflow_add-first
overflow_add-first c =
    let low : c.args.layout.types < 2147483648 = types_low c.args.layout c.args.rva (leaf_views c.args.leaves.now) c.requires.layout c.requires.fits in
    search (rules, low)

pub overflow_add-types : goal.overflow_add-types
overflow_add-types c =
    let low : c.args.layout.languages < 2147483648 = languages_low c.args.layout c.args.rva (leaf_views c.args.leaves.now) c.requires.layout c.requires.fits in
    search (rules, low)

pub set_directory-requires-clause-room : goal.set_directory-requires-clause-room
set_directory-requires-clause-room c =
    let w0 : Written c.args.out.now c.args.out.now 0 0 (section_at c.args.layout c.args.rva (leaf_views c.args.leaves.now)) (first c.args.layout (leaf_views c.args.leaves.now) ++ after_first c.args.layout c.args.rva (leaf_views c.args.leaves.now)) =
    at_0 c.args.out.now c.args.layout c.args.rva (leaf_views c.args.leaves.now) c.requires.layout c.requires.room in
    room_1 c.args.out.now c.args.out.now c.args.layout c.args.rva (leaf_views c.args.leaves.now) (layout_is c.args.layout (leaf_views c.args.leaves.now) c.requires.layout) w0

pub set_directory-requires-clause-parts : goal.set_directory-requires-clause-parts
set_directory-requires-clause-parts c = search (rules, arith, first_fits)

pub set_directories-requires-clause-room : goal.set_directories-requires-clause-room
set_directories-requires-clause-room c =
    let w1 : Written c.args.out.now c.set_directory.new.out 0 c.args.layout.types (section_at c.args.layout c.args.rva (leaf_views c.args.leaves.now)) (after_first c.args.layout c.args.rva (leaf_views c.args.leaves.now)) =
    at_1 c.args.out.now c.set_directory.new.out c.args.layout c.args.rva (leaf_views c.args.leaves.now) c.requires.layout c.requires.room c.set_directory.ensures.after in
    room_2 c.args.out.now c.set_directory.new.out c.args.layout c.args.rva (leaf_views c.args.leaves.now) w1

pub set_directories-requires-clause-parts : goal.set_directories-requires-clause-parts
set_directories-requires-clause-parts c = search (rules, arith, types_fit)

pub set_directories-requires-2-clause-room : goal.set_directories-requires-2-clause-room
set_directories-requires-2-clause-room c =
    let w2 : Written c.args.out.now c.set_directories.new.out 0 c.args.layout.languages (section_at c.args.layout c.args.rva (leaf_views c.args.leaves.now)) (after_types c.args.layout c.args.rva (leaf_views c.args.leaves.now)) =
    at_2 c.args.out.now c.set_directory.new.out c.set_directories.new.out c.args.layout c.args.rva (leaf_views c.args.leaves.now) c.requires.layout c.requires.room c.set_directory.ensures.after c.set_directories.ensures in
    room_3 c.args.out.now c.set_directories.new.out c.args.layout c.args.rva (leaf_views c.args.leaves.now) w2

pub set_directories-requires-2-clause-parts : goal.set_directories-requires-2-clause-parts
set_directories-requires-2-clause-parts c = search (rules, arith, languages_fit)

pub set_data_entries-requires-clause-room : goal.set_data_entries-requires-clause-room
set_data_entries-requires-clause-room c =
    let w3 : Written c.args.out.now c.set_directories-2.new.out 0 c.args.layout.entries (section_at c.args.layout c.args.rva (leaf_views c.args.leaves.now)) (after_languages c.args.layout c.args.rva (leaf_views c.args.leaves.now)) =
    at_3 c.args.out.now c.set_directory.new.out c.set_directories.new.out c.set_directories-2.new.out c.args.layout c.args.rva (leaf_views c.args.leaves.now) c.requires.layout c.requires.room c.set_directory.ensures.after c.set_directories.ensures c.set_directories-2.ensures in
    omega (arith, room_4 c.args.out.now c.set_directories-2.new.out c.args.layout c.args.rva (leaf_views c.args.leaves.now) w3)

pub set_data_entries-requires-clause-fits : goal.set_data_entries-requires-clause-fits
set_data_entries-requires-clause-fits c = search (rules, arith, data_fits)

pub set_names-requires-clause-room : goal.set_names-requires-clause-room
set_names-requires-clause-room c =
    let w3 : Written c.args.out.now c.set_directories-2.new.out 0 c.args.layout.entries (section_at c.args.layout c.args.rva (leaf_views c.args.leaves.now)) (after_languages c.args.layout c.args.rva (leaf_views c.args.leaves.now)) =
    at_3 c.args.out.now c.set_directory.new.out c.set_directories.new.out c.set_directories-2.new.out c.args.layout c.args.rva (leaf_views c.args.leaves.now) c.requires.layout c.requires.room c.set_directory.ensures.after c.set_directories.ensures c.set_directories-2.ensures in
    let w4 : Written c.args.out.now c.set_data_entries.new.out 0 c.args.layout.type_names (section_at c.args.layout c.args.rva (leaf_views c.args.leaves.now)) (after_entries c.args.layout (leaf_views c.args.leaves.now)) =
    stage_4 c.args.out.now c.set_directories-2.new.out c.set_data_entries.new.out c.args.layout c.args.rva (leaf_views c.args.leaves.now) (layout_is c.args.layout (leaf_views c.args.leaves.now) c.requires.layout) w3 c.set_data_entries.ensures in
    room_5 c.args.out.now c.set_data_entries.new.out c.args.layout c.args.rva (leaf_views c.args.leaves.now) w4

pub set_names-requires-2-clause-room : goal.set_names-requires-2-clause-room
set_names-requires-2-clause-room c =
    let w3 : Written c.args.out.now c.set_directories-2.new.out 0 c.args.layout.entries (section_at c.args.layout c.args.rva (leaf_views c.args.leaves.now)) (after_languages c.args.layout c.args.rva (leaf_views c.args.leaves.now)) =
    at_3 c.args.out.now c.set_directory.new.out c.set_directories.new.out c.set_directories-2.new.out c.args.layout c.args.rva (leaf_views c.args.leaves.now) c.requires.layout c.requires.room c.set_directory.ensures.after c.set_directories.ensures c.set_directories-2.ensures in
    let w4 : Written c.args.out.now c.set_data_entries.new.out 0 c.args.layout.type_names (section_at c.args.layout c.args.rva (leaf_views c.args.leaves.now)) (after_entries c.args.layout (leaf_views c.args.leaves.now)) =
    stage_4 c.args.out.now c.set_directories-2.new.out c.set_data_entries.new.out c.args.layout c.args.rva (leaf_views c.args.leaves.now) (layout_is c.args.layout (leaf_views c.args.leaves.now) c.requires.layout) w3 c.set_data_entries.ensures in
    let w5 : Written c.args.out.now c.set_names.new.out 0 c.args.layout.names (section_at c.args.layout c.args.rva (leaf_views c.args.leaves.now)) (after_type_names c.args.layout (leaf_views c.args.leaves.now)) =
    stage_5 c.args.out.now c.set_data_entries.new.out c.set_names.new.out c.args.layout c.args.rva (leaf_views c.args.leaves.now) (layout_is c.args.layout (leaf_views c.args.leaves.now) c.requires.layout) w4 c.set_names.ensures in
    room_6 c.args.out.now c.set_names.new.out c.args.layout c.args.rva (leaf_views c.args.leaves.now) w5

pub overflow_sub-layout : goal.overflow_sub-layout
overflow_sub-layout c = search (rules, arith, names_before)

pub set_zeros-requires : goal.set_zeros-requires
set_zeros-requires c =
    let w3 : Written c.args.out.now c.set_directories-2.new.out 0 c.args.layout.entries (section_at c.args.layout c.args.rva (leaf_views c.args.leaves.now)) (after_languages c.args.layout c.args.rva (leaf_views c.args.leaves.now)) =
    at_3 c.args.out.now c.set_directory.new.out c.set_directories.new.out c.set_directories-2.new.out c.args.layout c.args.rva (leaf_views c.args.leaves.now) c.requires.layout c.requires.room c.set_directory.ensures.after c.set_directories.ensures c.set_directories-2.ensures in
    let w4 : Written c.args.out.now c.set_data_entries.new.out 0 c.args.layout.type_names (section_at c.args.layout c.args.rva (leaf_views c.args.leaves.now)) (after_entries c.args.layout (leaf_views c.args.leaves.now)) =
    stage_4 c.args.out.now c.set_directories-2.new.out c.set_data_entries.new.out c.args.layout c.args.rva (leaf_views c.args.leaves.now) (layout_is c.args.layout (leaf_views c.args.leaves.now) c.requires.layout) w3 c.set_data_entries.ensures in
    let w5 : Written c.args.out.now c.set_names.new.out 0 c.args.layout.names (section_at c.args.layout c.args.rva (leaf_views c.args.leaves.now)) (after_type_names c.args.layout (leaf_views c.args.leaves.now)) =
    stage_5 c.args.out.now c.set_data_entries.new.out c.set_names.new.out c.args.layout c.args.rva (leaf_views c.args.leaves.now) (layout_is c.args.layout (leaf_views c.args.leaves.now) c.requires.layout) w4 c.set_names.ensures in
    let w6 : Written c.args.out.now c.set_names-2.new.out 0 c.args.layout.names_end (section_at c.args.layout c.args.rva (leaf_views c.args.leaves.now)) (after_names c.args.layout (leaf_views c.args.leaves.now)) =
    stage_6 c.args.out.now c.set_names.new.out c.set_names-2.new.out c.args.layout c.args.rva (leaf_views c.args.leaves.now) (layout_is c.args.layout (leaf_views c.args.leaves.now) c.requires.layout) w5 c.set_names-2.ensures in
    room_7 c.args.out.now c.set_names-2.new.out c.args.layout c.args.rva (leaf_views c.args.leaves.now) w6

pub set_contents-requires : goal.set_contents-requires
set_contents-requires c =
    let w3 : Written c.args.out.now c.set_directories-2.new.out 0 c.args.layout.entries (section_at c.args.layout c.args.rva (leaf_views c.args.leaves.now)) (after_languages c.args.layout c.args.rva (leaf_views c.args.leaves.now)) =
    at_3 c.args.out.now c.set_directory.new.out c.set_directories.new.out c.set_directories-2.new.out c.args.layout c.args.rva (leaf_views c.args.leaves.now) c.requires.layout c.requires.room c.set_directory.ensures.after c.set_directories.ensures c.set_directories-2.ensures in
    let w4 : Written c.args.out.now c.set_data_entries.new.out 0 c.args.layout.type_names (section_at c.args.layout c.args.rva (leaf_views c.args.leaves.now)) (after_entries c.args.layout (leaf_views c.args.leaves.now)) =
    stage_4 c.args.out.now c.set_directories-2.new.out c.set_data_entries.new.out c.args.layout c.args.rva (leaf_views c.args.leaves.now) (layout_is c.args.layout (leaf_views c.args.leaves.now) c.requires.layout) w3 c.set_data_entries.ensures in
    let w5 : Written c.args.out.now c.set_names.new.out 0 c.args.layout.names (section_at c.args.layout c.args.rva (leaf_views c.args.leaves.now)) (after_type_names c.args.layout (leaf_views c.args.leaves.now)) =
    stage_5 c.args.out.now c.set_data_entries.new.out c.set_names.new.out c.args.layout c.args.rva (leaf_views c.args.leaves.now) (layout_is c.args.layout (leaf_views c.args.leaves.now) c.requires.layout) w4 c.set_names.ensures in
    let w6 : Written c.args.out.now c.set_names-2.new.out 0 c.args.layout.names_end (section_at c.args.layout c.args.rva (leaf_views c.args.leaves.now)) (after_names c.args.layout (leaf_views c.args.leaves.now)) =
    stage_6 c.args.out.now c.set_names.new.out c.set_names-2.new.out c.args.layout c.args.rva (leaf_views c.args.leaves.now) (layout_is c.args.layout (leaf_views c.args.leaves.now) c.requires.layout) w5 c.set_names-2.ensures in
    let w7 : Written c.args.out.now c.set_zeros.new.buffer 0 c.args.layout.contents (section_at c.args.layout c.args.rva (leaf_views c.args.leaves.now)) (contents (leaf_views c.args.leaves.now)) =
    stage_7 c.args.out.now c.set_names-2.new.out c.set_zeros.new.buffer c.args.layout c.args.rva (leaf_views c.args.leaves.now) (layout_is c.args.layout (leaf_views c.args.leaves.now) c.requires.layout) w6 c.set_zeros.ensures in
    room_8 c.args.out.now c.set_zeros.new.buffer c.args.layout c.args.rva (leaf_views c.args.leaves.now) w7

pub returns : goal.returns
returns c =
    let w3 : Written c.args.out.now c.set_directories-2.new.out 0 c.args.layout.entries (section_at c.args.layout c.args.rva (leaf_views c.args.leaves.now)) (after_languages c.args.layout c.args.rva (leaf_views c.args.leaves.now)) =
    at_3 c.args.out.now c.set_directory.new.out c.set_directories.new.out c.set_directories-2.new.out c.args.layout c.args.rva (leaf_views c.args.leaves.now) c.requires.layout c.requires.room c.set_directory.ensures.after c.set_directories.ensures c.set_directories-2.ensures in
    let w4 : Written c.args.out.now c.set_data_entries.new.out 0 c.args.layout.type_names (section_at c.args.layout c.args.rva (leaf_views c.args.leaves.now)) (after_entries c.args.layout (leaf_views c.args.leaves.now)) =
    stage_4 c.args.out.now c.set_directories-2.new.out c.set_data_entries.new.out c.args.layout c.args.rva (leaf_views c.args.leaves.now) (layout_is c.args.layout (leaf_views c.args.leaves.now) c.requires.layout) w3 c.set_data_entries.ensures in
    let w5 : Written c.args.out.now c.set_names.new.out 0 c.args.layout.names (section_at c.args.layout c.args.rva (leaf_views c.args.leaves.now)) (after_type_names c.args.layout (leaf_views c.args.leaves.now)) =
    stage_5 c.args.out.now c.set_data_entries.new.out c.set_names.new.out c.args.layout c.args.rva (leaf_views c.args.leaves.now) (layout_is c.args.layout (leaf_views c.args.leaves.now) c.requires.layout) w4 c.set_names.ensures in
    let w6 : Written c.args.out.now c.set_names-2.new.out 0 c.args.layout.names_end (section_at c.args.layout c.args.rva (leaf_views c.args.leaves.now)) (after_names c.args.layout (leaf_views c.args.leaves.now)) =
    stage_6 c.args.out.now c.set_names.new.out c.set_names-2.new.out c.args.layout c.args.rva (leaf_views c.args.leaves.now) (layout_is c.args.layout (leaf_views c.args.leaves.now) c.requires.layout) w5 c.set_names-2.ensures in
    let w7 : Written c.args.out.now c.set_zeros.new.buffer 0 c.args.layout.contents (section_at c.args.layout c.args.rva (leaf_views c.args.leaves.now)) (contents (leaf_views c.args.leaves.now)) =
    stage_7 c.args.out.now c.set_names-2.new.out c.set_zeros.new.buffer c.args.layout c.args.rva (leaf_views c.args.leaves.now) (layout_is c.args.layout (leaf_views c.args.leaves.now) c.requires.layout) w6 c.set_zeros.ensures in
    stage_8 c.args.out.now c.set_zeros.new.buffer c.set_contents.new.out c.args.layout c.args.rva (leaf_views c.args.leaves.now) c.requires.layout w7 c.set_contents.ensures
