-- The samples are frames of a running program.
use Rattle.std.proofs.Common.{inl, inr, Bool, true, false, IsSome, ◌∷◌, map, Some, None, Ok, refl, arith, rules, []}
use Rattle.pe_frame.proofs.Cited.{AreItems, code_stream, ran, frame_register_in, IsProlog, IsBody, Part, left, registers_of, IsRecord}
use Rattle.pe_frame.proofs.Cited.{SavesOrKeeps, AreFrames, IsReady, AreReady, Add, Lea, Pop, Return, all_known, home_part, inner_part}
use Rattle.pe_frame.proofs.Cited.{framed_part, interrupt_part, late_part, pushed_part, told_part}

abbrev HasItems : Part → Type 0
HasItems p = AreItems (code_stream p.info) (map Ok p.codes)

abbrev RunsProlog : Bool → Part → Type 0
RunsProlog c p = IsProlog c (frame_register_in p.info) (ran None p.codes) p.entry

home_items : HasItems home_part
home_items = (4, (omega arith, (refl, inr (inl (refl, refl)))), (2, (omega arith, (refl, inr (inl (refl, refl)))), (2, (omega arith, (refl, inl (refl, refl))), refl)))

home_prolog : RunsProlog true home_part
home_prolog = search rules

inner_items : HasItems inner_part
inner_items = (4, (omega arith, (refl, inr (inl (refl, refl)))), refl)

inner_prolog : RunsProlog false inner_part
inner_prolog = search rules

framed_items : HasItems framed_part
framed_items = (
  4,
  (omega arith, (refl, inl (refl, refl, refl))),
  (
    4,
    (omega arith, (refl, inr (inr (inr (refl, refl))))),
    (
      2,
      (omega arith, (refl, inr (inr (inl (refl, refl))))),
      (2, (omega arith, (refl, inr (inl (refl, refl)))), (2, (omega arith, (refl, inl (refl, refl))), (2, (omega arith, (refl, inl (refl, refl))), refl))),
    ),
  ),
)

framed_prolog : RunsProlog true framed_part
framed_prolog = search rules

interrupt_items : HasItems interrupt_part
interrupt_items =
    (4, (omega arith, (refl, inr (inl (refl, refl)))), (2, (omega arith, (refl, inr (inl (refl, refl)))), (2, (omega arith, (refl, inr (inr (inr (inr (refl, omega arith, refl)))))), refl)))

interrupt_prolog : RunsProlog true interrupt_part
interrupt_prolog = search rules

framed_record : IsRecord true framed_part
framed_record = record { items = framed_items; prolog = framed_prolog; frame = inr refl }

inner_body : IsBody false (frame_register_in inner_part.info) (ran None inner_part.codes) inner_part.entry (all_known (left None inner_part)) (registers_of (left None inner_part))
inner_body = search rules

home_body : IsBody true (frame_register_in home_part.info) (ran None home_part.codes) home_part.entry (all_known (left None inner_part)) (registers_of (left None home_part))
home_body = search rules

framed_body : IsBody true (frame_register_in framed_part.info) (ran None framed_part.codes) framed_part.entry (all_known (left None framed_part)) (registers_of (left None framed_part))
framed_body = search rules

begun_body : IsBody true (frame_register_in framed_part.info) (ran (Some 11) framed_part.codes) framed_part.entry (all_known (left (Some 11) framed_part)) (registers_of (left (Some 11) framed_part))
begun_body = search rules

interrupt_body : IsBody true (frame_register_in interrupt_part.info) (ran None interrupt_part.codes) interrupt_part.entry (all_known (left None interrupt_part)) (registers_of (left None interrupt_part))
interrupt_body = search rules

no_frame : IsSome (left None home_part).frame_base → SavesOrKeeps None inner_part (registers_of (left None inner_part)) 0
no_frame h = cc

pub chained : AreFrames (all_known (left None inner_part)) (inner_part ∷ home_part ∷ []) None (registers_of (left None inner_part))
chained = (
  record { items = inner_items; prolog = inner_prolog; frame = inl refl },
  refl,
  record { order = tt; body = inner_body },
  (no_frame, tt),
  (record { items = home_items; prolog = home_prolog; frame = inl refl }, omega arith, record { order = tt; body = home_body }),
)

pub framed : AreFrames (all_known (left None framed_part)) (framed_part ∷ []) None (registers_of (left None framed_part))
framed = (framed_record, omega arith, record { order = tt; body = framed_body })

pub begun : AreFrames (all_known (left (Some 11) framed_part)) (framed_part ∷ []) (Some 11) (registers_of (left (Some 11) framed_part))
begun = (framed_record, omega arith, record { order = (22, search rules); body = begun_body })

pub interrupted : AreFrames (all_known (left None interrupt_part)) (interrupt_part ∷ []) None (registers_of (left None interrupt_part))
interrupted = (record { items = interrupt_items; prolog = interrupt_prolog; frame = inl refl }, omega arith, record { order = tt; body = interrupt_body })

pushed_items : HasItems pushed_part
pushed_items = (2, (omega arith, (refl, inr (inl (refl, refl)))), (2, (omega arith, (refl, inl (refl, refl))), refl))

pushed_prolog : RunsProlog true pushed_part
pushed_prolog = search rules

pushed_body : IsBody true (frame_register_in pushed_part.info) (ran None pushed_part.codes) pushed_part.entry (all_known (left None pushed_part)) (registers_of (left None pushed_part))
pushed_body = search rules

pub pushed : AreFrames (all_known (left None pushed_part)) (pushed_part ∷ []) None (registers_of (left None pushed_part))
pushed = (record { items = pushed_items; prolog = pushed_prolog; frame = inl refl }, omega arith, record { order = tt; body = pushed_body })

told_items : HasItems told_part
told_items = (
  2,
  (omega arith, (refl, inr (inr (inr (inl (refl, refl, refl)))))),
  (
    2,
    (omega arith, (refl, inr (inr (inr (inl (refl, refl, refl)))))),
    (2, (omega arith, (refl, inr (inl (refl, refl)))), (2, (omega arith, (refl, inl (refl, refl))), refl)),
  ),
)

told_prolog : RunsProlog true told_part
told_prolog = search rules

told_body : IsBody true (frame_register_in told_part.info) (ran (Some 1) told_part.codes) told_part.entry (all_known (left (Some 1) told_part)) (registers_of (left (Some 1) told_part))
told_body = search rules

pub told : AreFrames (all_known (left (Some 1) told_part)) (told_part ∷ []) (Some 1) (registers_of (left (Some 1) told_part))
told = (record { items = told_items; prolog = told_prolog; frame = inl refl }, omega arith, record { order = (5, search rules); body = told_body })

pub framed_ready : IsReady (frame_register_in framed_part.info) (ran None framed_part.codes) framed_part.entry (Lea 5 32 ∷ Pop 3 ∷ Pop 5 ∷ Return 0 ∷ []) (registers_of (left None framed_part))
framed_ready = record { restored = (refl, tt); back = tt }

pub chained_ready : AreReady (inner_part ∷ home_part ∷ []) (Add 32 ∷ Pop 7 ∷ Return 0 ∷ []) (registers_of (left None inner_part))
chained_ready = ((refl, tt), record { restored = (refl, tt); back = λ h. cc })

late_items : HasItems late_part
late_items = (
  2,
  (omega arith, (refl, inr (inl (refl, refl)))),
  (2, (omega arith, (refl, inl (refl, refl))), (2, (omega arith, (refl, inr (inr (inl (refl, refl))))), (2, (omega arith, (refl, inl (refl, refl))), refl))),
)

late_prolog : RunsProlog true late_part
late_prolog = search rules

late_body : IsBody true (frame_register_in late_part.info) (ran None late_part.codes) late_part.entry (all_known (left None late_part)) (registers_of (left None late_part))
late_body = search rules

pub late : AreFrames (all_known (left None late_part)) (late_part ∷ []) None (registers_of (left None late_part))
late = (record { items = late_items; prolog = late_prolog; frame = inr refl }, omega arith, record { order = tt; body = late_body })

pub late_ready : IsReady (frame_register_in late_part.info) (ran None late_part.codes) late_part.entry (Add 32 ∷ Pop 3 ∷ Pop 5 ∷ Return 0 ∷ []) (registers_of (left None late_part))
late_ready = record { restored = tt; back = λ h. refl }
