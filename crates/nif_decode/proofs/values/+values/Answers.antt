use Rattle.std.proofs.Common.{◌≡◌, ◌+◌, ◌*◌, false, length, take, refl, sym, ap, ◌∙◌, subst, arith, ◌-◌, ◌<◌, [], ◌∷◌, ◌++◌, map, Bor, append-nil}
use Rattle.nif_schema.specs.Declaration.{field}
use Rattle.nif_layout.specs.Form.{One, row_of, Row, width_at}
use Rattle.nif_layout.specs.Shape.{Shape, IsForm}
use Rattle.nif_layout.specs.Fails.{Fails, FormFails, GroupFails}
use Rattle.nif_scope.specs.Scope.{context_in, kind_of, IsKnown, asks, earlier, form_of_size, width_of}
use Rattle.nif_scope.specs.Told.{told, member_told}
use Rattle.nif_decode.specs.Faults.{cause}
use Rattle.nif_decode.specs.Answers.{Answers, IsReady, stand}
use Rattle.nif_decode.specs.SoFar.{items_kept, GroupSoFar}
use Rattle.nif_decode.proofs.Rows.{row_first, row_ready, row_more, item_behind, row_behind, row_before, row_closes, row_done, row_fails, row_unbegun, begin_ceases}
use Rattle.nif_decode.proofs.RowsOfRows.{row_form, IsRowOf, IsLength, row_is, row_ceases}
use Rattle.std.proofs.lemmas.List.{map-append}
use Rattle.nif_schema.specs.Schema.{line}
use Rattle.nif_scope.specs.declared.forms.Kind.TheVariants.{Number, Line, Ref, Text, Group}
use Rattle.nif_scope.specs.Keeping.{without_items}
use Rattle.nif_scope.proofs.OpenLine.{open_ends}
use Rattle.nif_decode.proofs.Rooms.{ready_less, ready_told}
use Rattle.nif_decode.proofs.Groups.{group_first, group_ready, group_open, group_closes, group_step, group_fails, group_done, group_memory, field_in, passed_next}
use Rattle.nif_decode.proofs.NextMember.{left_out_answers, value_answers}
use Rattle.nif_decode.proofs.OneValue.{of_kind, of_group, deep_ceases, inner_setting, as_one, of_form}
use Rattle.nif_decode.proofs.values.+values.Goals as goal
use Rattle.nif_schema.specs.declared.fields.Field as kept_field
use Rattle.nif_scope.specs.declared.entries.Entry.TheVariants as entry

pub read_array-read_run-requires : goal.read_array-read_run-requires
read_array-read_run-requires g t c = ready_less (stand c.args.taker.now c.args.nodes.now c.args.store.now c.args.told.now.items) (3 * c.args.depth + 1) 1 (omega arith) c.requires.ready

pub read_array-returns-then-run-clause-trees : goal.read_array-returns-then-run-clause-trees
read_array-returns-then-run-clause-trees g t c = c.read_run.ensures.trees

pub read_array-returns-then-run-clause-counted : goal.read_array-returns-then-run-clause-counted
read_array-returns-then-run-clause-counted g t c = c.read_run.ensures.counted

pub read_array-returns-then-run-clause-answers : goal.read_array-returns-then-run-clause-answers
read_array-returns-then-run-clause-answers g t c =
    subst (λ b. Answers g.S.Source.left g.S.Source.still g.S.Source.read_faults (context_in c.args.at.now).order (IsForm (Shape c.args.at.now.schema.now (context_in c.args.at.now) c.args.depth) (row_of b (kind_of c.args.at.now.schema.now c.args.of) c.args.count)) (FormFails (context_in c.args.at.now).order (Shape c.args.at.now.schema.now (context_in c.args.at.now) c.args.depth) (Fails c.args.at.now.schema.now (context_in c.args.at.now) c.args.depth) (row_of b (kind_of c.args.at.now.schema.now c.args.of) c.args.count)) (member_told c.args.asked)
    (stand c.args.taker.now c.args.nodes.now c.args.store.now c.args.told.now.items) (stand c.read_run.new.taker c.read_run.new.nodes c.read_run.new.store c.read_run.new.told.items) c.read_run.result)
    (sym c.if-run.true) c.read_run.ensures.answers

pub read_array-read_row-requires : goal.read_array-read_row-requires
read_array-read_row-requires g t c κs within = (omega arith, (within, (c.requires.setting, (c.requires.known, c.requires.ready))))

pub read_array-returns-clause-trees : goal.read_array-returns-clause-trees
read_array-returns-clause-trees g t c = c.read_row.ensures.trees

pub read_array-returns-clause-counted : goal.read_array-returns-clause-counted
read_array-returns-clause-counted g t c = c.read_row.ensures.counted

pub read_array-returns-clause-answers : goal.read_array-returns-clause-answers
read_array-returns-clause-answers g t c =
    subst (λ b. Answers g.S.Source.left g.S.Source.still g.S.Source.read_faults (context_in c.args.at.now).order (IsForm (Shape c.args.at.now.schema.now (context_in c.args.at.now) c.args.depth) (row_of b (kind_of c.args.at.now.schema.now c.args.of) c.args.count)) (FormFails (context_in c.args.at.now).order (Shape c.args.at.now.schema.now (context_in c.args.at.now) c.args.depth) (Fails c.args.at.now.schema.now (context_in c.args.at.now) c.args.depth) (row_of b (kind_of c.args.at.now.schema.now c.args.of) c.args.count)) (member_told c.args.asked)
    (stand c.args.taker.now c.args.nodes.now c.args.store.now c.args.told.now.items) (stand c.read_row.new.taker c.read_row.new.nodes c.read_row.new.store c.read_row.new.told.items) c.read_row.result)
    (sym c.if-run.false) c.read_row.ensures.answers

pub read_group-begin_group-requires : goal.read_group-begin_group-requires
read_group-begin_group-requires g t c =
    ready_less (stand c.args.taker.now c.args.nodes.now c.args.store.now []) (3 * c.args.depth + 3) 1 (omega arith) (ready_told (stand c.args.taker.now c.args.nodes.now c.args.store.now c.args.told.now.items) (3 * c.args.depth + 3) [] c.requires.ready)

pub read_group-returns-in-Err-clause-trees : goal.read_group-returns-in-Err-clause-trees
read_group-returns-in-Err-clause-trees g t c = c.in-Err.ensures.trees

pub read_group-returns-in-Err-clause-counted : goal.read_group-returns-in-Err-clause-counted
read_group-returns-in-Err-clause-counted g t c = c.in-Err.ensures.counted

pub read_group-returns-in-Err-clause-answers : goal.read_group-returns-in-Err-clause-answers
read_group-returns-in-Err-clause-answers g t c =
    let at = c.args.at.now in
    begin_ceases g.S.Source.left g.S.Source.still g.S.Source.read_faults (GroupFails at.schema.now (context_in at) (Shape at.schema.now (context_in at) c.args.depth) (Fails at.schema.now (context_in at) c.args.depth) (line at.schema.now at.number) at.template at.arg)
    (3 * c.args.depth + 3) (stand c.args.taker.now c.args.nodes.now c.args.store.now c.args.told.now.items) (stand c.args.taker.now c.begin_group.new.nodes c.begin_group.new.store c.args.told.now.items) (cause c.in-Err.fault)
    c.requires.ready refl c.in-Err.ensures.begins.0 c.in-Err.ensures.begins.1

pub read_group-line_of-of-items-requires-clause-within : goal.read_group-line_of-of-items-requires-clause-within
read_group-line_of-of-items-requires-clause-within g t c = c.requires.setting.is_open.0

pub read_group-line_of-of-items-requires-clause-ends : goal.read_group-line_of-of-items-requires-clause-ends
read_group-line_of-of-items-requires-clause-ends g t c = open_ends c.args.at.now.schema.now c.args.at.now.number c.requires.setting.is_open

pub read_group-read_member-requires : goal.read_group-read_member-requires
read_group-read_member-requires g t c κs le =
    let own = λ (f : Bor kept_field.Field). field f.now in
    let front = map own c.loop-of.yielded in
    let f = field c.in-Some.of.now in
    let e = c.loop-of.invariant.fields ∙ ap (λ rest. map own c.loop-of.yielded ++ rest) c.in-Some.ensures.steps in
    let s = c.loop-of.invariant.so_far c.requires.ready in
    let is : 7 * c.args.depth + 6 ≡ t = c.decreases in
    let less : 7 * c.args.depth + 5 < t = omega (arith, is) in
    let ready = group_ready g.S.Source.left g.S.Source.still g.S.Source.read_faults c.args.at.now c.args.depth (3 * c.args.depth + 3) (3 * c.args.depth + 2) front (stand c.args.taker.now c.args.nodes.now c.args.store.now c.args.told.now.items) (stand c.loop-of.taker c.loop-of.nodes c.loop-of.store c.loop-of.entries.items) c.requires.ready (omega arith) s in
    (less, (le, (c.requires.setting, (field_in (line c.args.at.now.schema.now c.args.at.now.number) front c.next.new.self f e, (ready, group_open g.S.Source.left g.S.Source.still g.S.Source.read_faults c.args.at.now c.args.depth front c.requires.ready.room.tree.levels (stand c.args.taker.now c.args.nodes.now c.args.store.now c.args.told.now.items) (stand c.loop-of.taker c.loop-of.nodes c.loop-of.store c.loop-of.entries.items) s)))))

pub read_group-returns-in-Err-read_member-clause-trees : goal.read_group-returns-in-Err-read_member-clause-trees
read_group-returns-in-Err-read_member-clause-trees g t c = c.in-Err-read_member.ensures.trees ∙ c.loop-of.invariant.trees

pub read_group-returns-in-Err-read_member-clause-counted : goal.read_group-returns-in-Err-read_member-clause-counted
read_group-returns-in-Err-read_member-clause-counted g t c = c.in-Err-read_member.ensures.counted

pub read_group-returns-in-Err-read_member-clause-answers : goal.read_group-returns-in-Err-read_member-clause-answers
read_group-returns-in-Err-read_member-clause-answers g t c =
    let own = λ (f : Bor kept_field.Field). field f.now in
    let front = map own c.loop-of.yielded in
    let f = field c.in-Some.of.now in
    let e = c.loop-of.invariant.fields ∙ ap (λ rest. map own c.loop-of.yielded ++ rest) c.in-Some.ensures.steps in
    let s = c.loop-of.invariant.so_far c.requires.ready in
    let new = stand c.read_member.new.taker c.read_member.new.nodes c.read_member.new.store c.read_member.new.told.items in
    group_fails g.S.Source.left g.S.Source.still g.S.Source.read_faults c.args.at.now c.args.depth front c.next.new.self f c.requires.ready.room.tree.levels (stand c.args.taker.now c.args.nodes.now c.args.store.now c.args.told.now.items) (stand c.loop-of.taker c.loop-of.nodes c.loop-of.store c.loop-of.entries.items) new c.args.told.now.items (cause c.in-Err-read_member.fault) e s
    (c.in-Err-read_member.ensures.answers s.held s.tells)

pub read_group-close-requires : goal.read_group-close-requires
read_group-close-requires g t c =
    group_closes g.S.Source.left g.S.Source.still g.S.Source.read_faults c.args.at.now c.args.depth (map (λ (f : Bor kept_field.Field). field f.now) c.loop-of.yielded) c.requires.ready.room.tree.levels (stand c.args.taker.now c.args.nodes.now c.args.store.now c.args.told.now.items) (stand c.loop-of.taker c.loop-of.nodes c.loop-of.store c.loop-of.entries.items)
    (c.loop-of.invariant.so_far c.requires.ready)

pub read_group-returns-in-Ok-tell_group-clause-trees : goal.read_group-returns-in-Ok-tell_group-clause-trees
read_group-returns-in-Ok-tell_group-clause-trees g t c = c.close.ensures.trees ∙ c.loop-of.invariant.trees

pub read_group-returns-in-Ok-tell_group-clause-counted : goal.read_group-returns-in-Ok-tell_group-clause-counted
read_group-returns-in-Ok-tell_group-clause-counted g t c = (c.loop-of.invariant.so_far c.requires.ready).goes.counted

pub read_group-returns-in-Ok-tell_group-clause-answers : goal.read_group-returns-in-Ok-tell_group-clause-answers
read_group-returns-in-Ok-tell_group-clause-answers g t c =
    let own = λ (f : Bor kept_field.Field). field f.now in
    let front = map own c.loop-of.yielded in
    let e = c.loop-of.invariant.fields ∙ ap (λ rest. map own c.loop-of.yielded ++ rest) c.in-None.ensures.steps.0 ∙ append-nil front in
    group_done g.S.Source.left g.S.Source.still g.S.Source.read_faults c.args.at.now c.args.depth (3 * c.args.depth + 3) front (stand c.args.taker.now c.args.nodes.now c.args.store.now c.args.told.now.items) (stand c.loop-of.taker c.loop-of.nodes c.loop-of.store c.loop-of.entries.items) (stand c.loop-of.taker c.loop-of.nodes c.close.new.self c.tell_group.new.entries.items) c.requires.ready e
    (c.loop-of.invariant.so_far c.requires.ready) refl refl c.close.ensures.building
    (c.in-Ok-tell_group.ensures ∙ ap (λ es. c.args.told.now.items ++ entry.Group (length (without_items 0 es)) ∷ without_items 0 es) c.deref.ensures.value)

pub read_group-returns-clause-trees : goal.read_group-returns-clause-trees
read_group-returns-clause-trees g t c = c.close.ensures.trees ∙ c.loop-of.invariant.trees

pub read_group-returns-clause-counted : goal.read_group-returns-clause-counted
read_group-returns-clause-counted g t c = (c.loop-of.invariant.so_far c.requires.ready).goes.counted

pub read_group-returns-clause-answers : goal.read_group-returns-clause-answers
read_group-returns-clause-answers g t c =
    group_memory g.S.Source.left g.S.Source.still g.S.Source.read_faults c.args.at.now c.args.depth (map (λ (f : Bor kept_field.Field). field f.now) c.loop-of.yielded) c.requires.ready.room.tree.levels (stand c.args.taker.now c.args.nodes.now c.args.store.now c.args.told.now.items) (stand c.loop-of.taker c.loop-of.nodes c.loop-of.store c.loop-of.entries.items) (stand c.loop-of.taker c.loop-of.nodes c.close.new.self c.tell_group.new.entries.items)
    (c.loop-of.invariant.so_far c.requires.ready) refl c.close.ensures.building

pub read_member-is_present-requires-clause-setting : goal.read_member-is_present-requires-clause-setting
read_member-is_present-requires-clause-setting g t c = c.requires.setting

pub read_member-is_present-requires-clause-field : goal.read_member-is_present-requires-clause-field
read_member-is_present-requires-clause-field g t c = c.requires.field

pub read_member-leave_out-requires-clause-ready : goal.read_member-leave_out-requires-clause-ready
read_member-leave_out-requires-clause-ready g t c = ready_less (stand c.args.taker.now c.args.nodes.now c.args.store.now c.args.told.now.items) (3 * c.args.depth + 2) 0 (omega arith) c.requires.ready

pub read_member-leave_out-requires-clause-group : goal.read_member-leave_out-requires-clause-group
read_member-leave_out-requires-clause-group g t c = c.requires.group

pub read_member-returns-then-not-is_present-clause-trees : goal.read_member-returns-then-not-is_present-clause-trees
read_member-returns-then-not-is_present-clause-trees g t c = c.leave_out.ensures.trees

pub read_member-returns-then-not-is_present-clause-counted : goal.read_member-returns-then-not-is_present-clause-counted
read_member-returns-then-not-is_present-clause-counted g t c = c.leave_out.ensures.counted

pub read_member-returns-then-not-is_present-clause-answers : goal.read_member-returns-then-not-is_present-clause-answers
read_member-returns-then-not-is_present-clause-answers g t c held tells =
    left_out_answers g.S.Source.left g.S.Source.still g.S.Source.read_faults c.args.at.now c.args.depth (earlier c.args.at.now held) (field c.args.of.now) (3 * c.args.depth + 2) (stand c.args.taker.now c.args.nodes.now c.args.store.now c.args.told.now.items)
    (stand c.args.taker.now c.leave_out.new.nodes c.leave_out.new.store c.leave_out.new.told.items) c.leave_out.result c.requires.ready refl
    (sym (c.is_present.ensures held (c.deref.ensures.value ∙ tells)) ∙ c.if-not-is_present.true) c.leave_out.ensures.answers

pub read_member-read_value-requires : goal.read_member-read_value-requires
read_member-read_value-requires g t c κs le =
    let is : 7 * c.args.depth + 5 ≡ t = c.decreases in
    let less : 7 * c.args.depth + 4 < t = omega (arith, is) in
    (less, (le, (c.requires.setting, (c.requires.field, c.requires.ready))))

pub read_member-returns-clause-trees : goal.read_member-returns-clause-trees
read_member-returns-clause-trees g t c = c.read_value.ensures.trees

pub read_member-returns-clause-counted : goal.read_member-returns-clause-counted
read_member-returns-clause-counted g t c = c.read_value.ensures.counted

pub read_member-returns-clause-answers : goal.read_member-returns-clause-answers
read_member-returns-clause-answers g t c held tells =
    value_answers g.S.Source.left g.S.Source.still g.S.Source.read_faults c.args.at.now c.args.depth (earlier c.args.at.now held) (field c.args.of.now) (stand c.args.taker.now c.args.nodes.now c.args.store.now c.args.told.now.items)
    (stand c.read_value.new.taker c.read_value.new.nodes c.read_value.new.store c.read_value.new.told.items) c.read_value.result
    (sym (c.is_present.ensures held (c.deref.ensures.value ∙ tells)) ∙ c.if-not-is_present.false) (c.read_value.ensures.answers held tells)

pub read_one-read_number-requires-clause-width : goal.read_one-read_number-requires-clause-width
read_one-read_number-requires-clause-width g t c = subst (λ k. IsKnown c.args.at.now.schema.now k) c.in-Number.is c.requires.known

pub read_one-read_number-requires-clause-ready : goal.read_one-read_number-requires-clause-ready
read_one-read_number-requires-clause-ready g t c = ready_less (stand c.args.taker.now c.args.nodes.now c.args.store.now c.args.told.now.items) (3 * c.args.depth) 0 (omega arith) c.requires.ready

pub read_one-read_line-requires : goal.read_one-read_line-requires
read_one-read_line-requires g t c = record { ready = ready_less (stand c.args.taker.now c.args.nodes.now c.args.store.now c.args.told.now.items) (3 * c.args.depth) 0 (omega arith) c.requires.ready }

pub read_one-read_ref-requires : goal.read_one-read_ref-requires
read_one-read_ref-requires g t c = record { ready = ready_less (stand c.args.taker.now c.args.nodes.now c.args.store.now c.args.told.now.items) (3 * c.args.depth) 0 (omega arith) c.requires.ready }

pub read_one-read_text-requires : goal.read_one-read_text-requires
read_one-read_text-requires g t c = record { ready = ready_less (stand c.args.taker.now c.args.nodes.now c.args.store.now c.args.told.now.items) (3 * c.args.depth) 0 (omega arith) c.requires.ready }

pub read_one-returns-then-depth-eq0-clause-trees : goal.read_one-returns-then-depth-eq0-clause-trees
read_one-returns-then-depth-eq0-clause-trees g t c = refl

pub read_one-returns-then-depth-eq0-clause-counted : goal.read_one-returns-then-depth-eq0-clause-counted
read_one-returns-then-depth-eq0-clause-counted g t c = c.requires.ready.counted

pub read_one-returns-then-depth-eq0-clause-answers : goal.read_one-returns-then-depth-eq0-clause-answers
read_one-returns-then-depth-eq0-clause-answers g t c =
    deep_ceases g.S.Source.left g.S.Source.still g.S.Source.read_faults c.args.at.now.schema.now (context_in c.args.at.now) c.args.depth c.args.of c.in-Group.number c.in-Group.template c.in-Group.arg (3 * c.args.depth) c.place.result (stand c.args.taker.now c.args.nodes.now c.args.store.now c.args.told.now.items)
    c.requires.ready c.in-Group.is c.if-depth-eq0.true c.place.ensures.place

pub read_one-overflow_sub-depth : goal.read_one-overflow_sub-depth
read_one-overflow_sub-depth g t c = omega (arith, c.if-depth-eq0.false)

pub read_one-read_group-requires : goal.read_one-read_group-requires
read_one-read_group-requires g t c κs le =
    let is : 7 * c.args.depth ≡ t = c.decreases in
    let less : 7 * (c.args.depth - 1) + 6 < t = omega (arith, is, c.if-depth-eq0.false) in
    let ready = ready_less (stand c.args.taker.now c.args.nodes.now c.args.store.now c.args.told.now.items) (3 * c.args.depth) (3 * (c.args.depth - 1) + 3) (omega (arith, c.if-depth-eq0.false)) c.requires.ready in
    let setting = inner_setting c.args.at.now c.args.of c.in-Group.number c.in-Group.template c.in-Group.arg c.requires.setting c.in-Group.is c.requires.known in
    (less, (le, (setting, ready)))

pub read_one-unreachable-requires : goal.read_one-unreachable-requires
read_one-unreachable-requires g t c = subst (λ k. IsKnown c.args.at.now.schema.now k) c.in-Unknown.is c.requires.known

pub read_one-unreachable-unreachable : goal.read_one-unreachable-unreachable
read_one-unreachable-unreachable g t c = subst (λ k. IsKnown c.args.at.now.schema.now k) c.in-Unknown.is c.requires.known

pub read_one-returns-in-Number-clause-trees : goal.read_one-returns-in-Number-clause-trees
read_one-returns-in-Number-clause-trees g t c = c.read_number.ensures.trees

pub read_one-returns-in-Number-clause-counted : goal.read_one-returns-in-Number-clause-counted
read_one-returns-in-Number-clause-counted g t c = c.read_number.ensures.counted

pub read_one-returns-in-Number-clause-answers : goal.read_one-returns-in-Number-clause-answers
read_one-returns-in-Number-clause-answers g t c =
    of_kind g.S.Source.left g.S.Source.still g.S.Source.read_faults c.args.at.now.schema.now (context_in c.args.at.now) c.args.depth c.args.of (Number c.in-Number.width c.in-Number.little) (stand c.args.taker.now c.args.nodes.now c.args.store.now c.args.told.now.items)
    (stand c.read_number.new.taker c.read_number.new.nodes c.read_number.new.store c.read_number.new.told.items) c.read_number.result c.in-Number.is c.read_number.ensures.answers

pub read_one-returns-in-Line-clause-trees : goal.read_one-returns-in-Line-clause-trees
read_one-returns-in-Line-clause-trees g t c = c.read_line.ensures.trees

pub read_one-returns-in-Line-clause-counted : goal.read_one-returns-in-Line-clause-counted
read_one-returns-in-Line-clause-counted g t c = c.read_line.ensures.counted

pub read_one-returns-in-Line-clause-answers : goal.read_one-returns-in-Line-clause-answers
read_one-returns-in-Line-clause-answers g t c =
    of_kind g.S.Source.left g.S.Source.still g.S.Source.read_faults c.args.at.now.schema.now (context_in c.args.at.now) c.args.depth c.args.of Line (stand c.args.taker.now c.args.nodes.now c.args.store.now c.args.told.now.items)
    (stand c.read_line.new.taker c.read_line.new.nodes c.read_line.new.store c.read_line.new.told.items) c.read_line.result c.in-Line.is c.read_line.ensures.answers

pub read_one-returns-in-Ref-clause-trees : goal.read_one-returns-in-Ref-clause-trees
read_one-returns-in-Ref-clause-trees g t c = c.read_ref.ensures.trees

pub read_one-returns-in-Ref-clause-counted : goal.read_one-returns-in-Ref-clause-counted
read_one-returns-in-Ref-clause-counted g t c = c.read_ref.ensures.counted

pub read_one-returns-in-Ref-clause-answers : goal.read_one-returns-in-Ref-clause-answers
read_one-returns-in-Ref-clause-answers g t c =
    of_kind g.S.Source.left g.S.Source.still g.S.Source.read_faults c.args.at.now.schema.now (context_in c.args.at.now) c.args.depth c.args.of (Ref c.in-Ref.strong c.in-Ref.wanted) (stand c.args.taker.now c.args.nodes.now c.args.store.now c.args.told.now.items)
    (stand c.read_ref.new.taker c.read_ref.new.nodes c.read_ref.new.store c.read_ref.new.told.items) c.read_ref.result c.in-Ref.is c.read_ref.ensures.answers

pub read_one-returns-in-Text-clause-trees : goal.read_one-returns-in-Text-clause-trees
read_one-returns-in-Text-clause-trees g t c = c.read_text.ensures.trees

pub read_one-returns-in-Text-clause-counted : goal.read_one-returns-in-Text-clause-counted
read_one-returns-in-Text-clause-counted g t c = c.read_text.ensures.counted

pub read_one-returns-in-Text-clause-answers : goal.read_one-returns-in-Text-clause-answers
read_one-returns-in-Text-clause-answers g t c =
    of_kind g.S.Source.left g.S.Source.still g.S.Source.read_faults c.args.at.now.schema.now (context_in c.args.at.now) c.args.depth c.args.of Text (stand c.args.taker.now c.args.nodes.now c.args.store.now c.args.told.now.items)
    (stand c.read_text.new.taker c.read_text.new.nodes c.read_text.new.store c.read_text.new.told.items) c.read_text.result c.in-Text.is c.read_text.ensures.answers

pub read_one-returns-else-depth-eq0-clause-trees : goal.read_one-returns-else-depth-eq0-clause-trees
read_one-returns-else-depth-eq0-clause-trees g t c = c.read_group.ensures.trees

pub read_one-returns-else-depth-eq0-clause-counted : goal.read_one-returns-else-depth-eq0-clause-counted
read_one-returns-else-depth-eq0-clause-counted g t c = c.read_group.ensures.counted

pub read_one-returns-else-depth-eq0-clause-answers : goal.read_one-returns-else-depth-eq0-clause-answers
read_one-returns-else-depth-eq0-clause-answers g t c =
    let inner = record c.args.at.now { number = c.in-Group.number; template = c.in-Group.template; arg = c.in-Group.arg } in
    let new = stand c.read_group.new.taker c.read_group.new.nodes c.read_group.new.store c.read_group.new.told.items in
    of_kind g.S.Source.left g.S.Source.still g.S.Source.read_faults c.args.at.now.schema.now (context_in c.args.at.now) c.args.depth c.args.of (Group c.in-Group.number c.in-Group.template c.in-Group.arg) (stand c.args.taker.now c.args.nodes.now c.args.store.now c.args.told.now.items) new c.read_group.result c.in-Group.is
    (of_group g.S.Source.left g.S.Source.still g.S.Source.read_faults inner c.args.depth (c.args.depth - 1) (stand c.args.taker.now c.args.nodes.now c.args.store.now c.args.told.now.items) new c.read_group.result (omega (arith, c.if-depth-eq0.false)) c.read_group.ensures.answers)

pub read_row-begin_row-requires : goal.read_row-begin_row-requires
read_row-begin_row-requires g t c = ready_less (stand c.args.taker.now c.args.nodes.now c.args.store.now c.args.told.now.items) (3 * c.args.depth + 1) 1 (omega arith) c.requires.ready

pub read_row-returns-in-Err-clause-trees : goal.read_row-returns-in-Err-clause-trees
read_row-returns-in-Err-clause-trees g t c = c.begin_row.ensures.trees

pub read_row-returns-in-Err-clause-counted : goal.read_row-returns-in-Err-clause-counted
read_row-returns-in-Err-clause-counted g t c = c.begin_row.ensures.counted

pub read_row-returns-in-Err-clause-answers : goal.read_row-returns-in-Err-clause-answers
read_row-returns-in-Err-clause-answers g t c =
    row_unbegun g.S.Source.left g.S.Source.still g.S.Source.read_faults (context_in c.args.at.now).order (Shape c.args.at.now.schema.now (context_in c.args.at.now) c.args.depth) (Fails c.args.at.now.schema.now (context_in c.args.at.now) c.args.depth) (λ i. One (kind_of c.args.at.now.schema.now c.args.of)) c.args.count (3 * c.args.depth + 1)
    (stand c.args.taker.now c.args.nodes.now c.args.store.now c.args.told.now.items) (stand c.args.taker.now c.begin_row.new.nodes c.begin_row.new.store c.begin_row.new.told.items) (cause c.in-Err.fault)
    c.requires.ready refl c.in-Err.ensures.begins.0 c.in-Err.ensures.begins.1

pub read_row-read_one-requires : goal.read_row-read_one-requires
read_row-read_one-requires g t c κs within =
    let ready = row_ready g.S.Source.left g.S.Source.still g.S.Source.read_faults (context_in c.args.at.now).order (λ i. Shape c.args.at.now.schema.now (context_in c.args.at.now) c.args.depth (kind_of c.args.at.now.schema.now c.args.of)) c.args.asked c.loop-item._item (3 * c.args.depth) (stand c.args.taker.now c.args.nodes.now c.args.store.now c.args.told.now.items) (stand c.loop-item.taker c.loop-item.nodes c.loop-item.store c.loop-item.told.items) c.loop-item.invariant.ready c.loop-item.invariant.so_far in
    (omega arith, (within, (c.requires.setting, (c.requires.known, ready))))

pub read_row-returns-in-Err-read_one-clause-trees : goal.read_row-returns-in-Err-read_one-clause-trees
read_row-returns-in-Err-read_one-clause-trees g t c = c.read_one.ensures.trees ∙ c.loop-item.invariant.trees

pub read_row-returns-in-Err-read_one-clause-counted : goal.read_row-returns-in-Err-read_one-clause-counted
read_row-returns-in-Err-read_one-clause-counted g t c = c.read_one.ensures.counted

pub read_row-returns-in-Err-read_one-clause-answers : goal.read_row-returns-in-Err-read_one-clause-answers
read_row-returns-in-Err-read_one-clause-answers g t c =
    row_fails g.S.Source.left g.S.Source.still g.S.Source.read_faults (context_in c.args.at.now).order (λ i. Shape c.args.at.now.schema.now (context_in c.args.at.now) c.args.depth (kind_of c.args.at.now.schema.now c.args.of)) (Shape c.args.at.now.schema.now (context_in c.args.at.now) c.args.depth) (Fails c.args.at.now.schema.now (context_in c.args.at.now) c.args.depth) (λ i. One (kind_of c.args.at.now.schema.now c.args.of)) c.args.asked c.loop-item._item c.args.count c.loop-item.invariant.ready.room.tree.levels
    (stand c.args.taker.now c.args.nodes.now c.args.store.now c.args.told.now.items) (stand c.loop-item.taker c.loop-item.nodes c.loop-item.store c.loop-item.told.items) (stand c.read_one.new.taker c.read_one.new.nodes c.read_one.new.store c.read_one.new.told.items) (cause c.in-Err-read_one.fault)
    (omega arith) (λ i at is. is) c.loop-item.invariant.so_far c.in-Err-read_one.ensures.answers

pub read_row-settle_item-requires : goal.read_row-settle_item-requires
read_row-settle_item-requires g t c =
    let r = c.in-Ok-read_one.ensures.answers in
    let long : length c.loop-item.told.items ≡ c.len-item.result = omega (arith, c.len-item.ensures, c.loop-item.told.ok.0) in
    item_behind c.read_one.new.told.items c.loop-item.told.items r.node c.len-item.result r.told long

pub read_row-loop-item-smaller : goal.read_row-loop-item-smaller
read_row-loop-item-smaller g t c = omega arith

pub read_row-loop-item-init : goal.read_row-loop-item-init
read_row-loop-item-init g t c =
    let ready : IsReady (stand c.args.taker.now c.args.nodes.now c.args.store.now c.args.told.now.items) (3 * c.args.depth + 1) = c.requires.ready in
    record {
      trees = c.begin_row.ensures.trees;
      ready = ready;
      so_far = row_first g.S.Source.left g.S.Source.still g.S.Source.read_faults (context_in c.args.at.now).order (λ i. Shape c.args.at.now.schema.now (context_in c.args.at.now) c.args.depth (kind_of c.args.at.now.schema.now c.args.of)) c.args.asked (3 * c.args.depth + 1) (stand c.args.taker.now c.args.nodes.now c.args.store.now c.args.told.now.items) (stand c.args.taker.now c.begin_row.new.nodes c.begin_row.new.store c.begin_row.new.told.items) ready refl c.in-Ok.ensures.begins;
    }

pub read_row-loop-item-preserved : goal.read_row-loop-item-preserved
read_row-loop-item-preserved g t c =
    let r = c.in-Ok-read_one.ensures.answers in
    let behind : length c.loop-item.told.items ≡ c.len-item.result = omega (arith, c.len-item.ensures, c.loop-item.told.ok.0) in
    record {
      trees = c.read_one.ensures.trees ∙ c.loop-item.invariant.trees;
      ready = c.loop-item.invariant.ready;
      so_far = row_more g.S.Source.left g.S.Source.still g.S.Source.read_faults (context_in c.args.at.now).order (λ i. Shape c.args.at.now.schema.now (context_in c.args.at.now) c.args.depth (kind_of c.args.at.now.schema.now c.args.of)) (Shape c.args.at.now.schema.now (context_in c.args.at.now) c.args.depth (kind_of c.args.at.now.schema.now c.args.of)) told c.args.asked c.loop-item._item c.loop-item.invariant.ready.room.tree.levels
          (stand c.args.taker.now c.args.nodes.now c.args.store.now c.args.told.now.items) (stand c.loop-item.taker c.loop-item.nodes c.loop-item.store c.loop-item.told.items) (stand c.read_one.new.taker c.read_one.new.nodes c.read_one.new.store c.read_one.new.told.items) (stand c.read_one.new.taker c.read_one.new.nodes c.read_one.new.store c.settle_item.new.told.items)
          c.loop-item.invariant.so_far r (λ at is. is) refl refl refl (c.settle_item.ensures c.loop-item.told.items r.node r.told behind);
    }

pub read_row-close-requires : goal.read_row-close-requires
read_row-close-requires g t c = row_closes g.S.Source.left g.S.Source.still g.S.Source.read_faults (context_in c.args.at.now).order (λ i. Shape c.args.at.now.schema.now (context_in c.args.at.now) c.args.depth (kind_of c.args.at.now.schema.now c.args.of)) c.args.asked c.loop-item._item c.loop-item.invariant.ready.room.tree.levels (stand c.args.taker.now c.args.nodes.now c.args.store.now c.args.told.now.items) (stand c.loop-item.taker c.loop-item.nodes c.loop-item.store c.loop-item.told.items) c.loop-item.invariant.so_far

pub read_row-end_items-requires : goal.read_row-end_items-requires
read_row-end_items-requires g t c =
    let long : length c.args.told.now.items ≡ c.len-start.result = omega (arith, c.len-start.ensures, c.args.told.now.ok.0) in
    row_behind g.S.Source.left g.S.Source.still g.S.Source.read_faults (context_in c.args.at.now).order (λ i. Shape c.args.at.now.schema.now (context_in c.args.at.now) c.args.depth (kind_of c.args.at.now.schema.now c.args.of)) c.args.asked c.loop-item._item c.loop-item.invariant.ready.room.tree.levels (stand c.args.taker.now c.args.nodes.now c.args.store.now c.args.told.now.items) (stand c.loop-item.taker c.loop-item.nodes c.loop-item.store c.loop-item.told.items) c.len-start.result c.loop-item.invariant.so_far long

pub read_row-returns-clause-trees : goal.read_row-returns-clause-trees
read_row-returns-clause-trees g t c = c.close.ensures.trees ∙ c.loop-item.invariant.trees

pub read_row-returns-clause-counted : goal.read_row-returns-clause-counted
read_row-returns-clause-counted g t c = c.loop-item.invariant.so_far.goes.counted

pub read_row-returns-clause-answers : goal.read_row-returns-clause-answers
read_row-returns-clause-answers g t c =
    let long : length c.args.told.now.items ≡ c.len-start.result = omega (arith, c.len-start.ensures, c.args.told.now.ok.0) in
    let s = c.loop-item.invariant.so_far in
    row_done g.S.Source.left g.S.Source.still g.S.Source.read_faults (context_in c.args.at.now).order (λ i. Shape c.args.at.now.schema.now (context_in c.args.at.now) c.args.depth (kind_of c.args.at.now.schema.now c.args.of)) (Shape c.args.at.now.schema.now (context_in c.args.at.now) c.args.depth) (λ i. One (kind_of c.args.at.now.schema.now c.args.of)) c.args.asked c.loop-item._item c.args.count (3 * c.args.depth + 1)
    (stand c.args.taker.now c.args.nodes.now c.args.store.now c.args.told.now.items) (stand c.loop-item.taker c.loop-item.nodes c.loop-item.store c.loop-item.told.items) (stand c.loop-item.taker c.loop-item.nodes c.close.new.self c.end_items.new.told.items)
    c.loop-item.invariant.ready (omega arith) (λ i at is. is) s refl refl c.close.ensures.building
    (c.end_items.ensures c.args.told.now.items (items_kept c.args.asked s.held) s.told long)

pub read_rows-begin_row-requires : goal.read_rows-begin_row-requires
read_rows-begin_row-requires g t c = ready_less (stand c.args.taker.now c.args.nodes.now c.args.store.now c.args.told.now.items) (3 * c.args.depth + 2) 1 (omega arith) c.requires.ready

pub read_rows-returns-in-Err-clause-trees : goal.read_rows-returns-in-Err-clause-trees
read_rows-returns-in-Err-clause-trees g t c = c.begin_row.ensures.trees

pub read_rows-returns-in-Err-clause-counted : goal.read_rows-returns-in-Err-clause-counted
read_rows-returns-in-Err-clause-counted g t c = c.begin_row.ensures.counted

pub read_rows-returns-in-Err-clause-answers : goal.read_rows-returns-in-Err-clause-answers
read_rows-returns-in-Err-clause-answers g t c held tells =
    row_unbegun g.S.Source.left g.S.Source.still g.S.Source.read_faults (context_in c.args.at.now).order (Shape c.args.at.now.schema.now (context_in c.args.at.now) c.args.depth) (Fails c.args.at.now.schema.now (context_in c.args.at.now) c.args.depth) (row_form c.args.at.now (field c.args.of.now) c.args.kind c.args.run held) c.args.count (3 * c.args.depth + 2)
    (stand c.args.taker.now c.args.nodes.now c.args.store.now c.args.told.now.items) (stand c.args.taker.now c.begin_row.new.nodes c.begin_row.new.store c.begin_row.new.told.items) (cause c.in-Err.fault)
    c.requires.ready refl c.in-Err.ensures.begins.0 c.in-Err.ensures.begins.1

pub read_rows-slice_bounds-width_at-end : goal.read_rows-slice_bounds-width_at-end
read_rows-slice_bounds-width_at-end g t c =
    let long : length c.args.told.now.items ≡ c.len-end.result = omega (arith, c.len-end.ensures, c.args.told.now.ok.0) in
    let before = ap (λ x. take c.len-end.result x) c.deref.ensures.value ∙ row_before g.S.Source.left g.S.Source.still g.S.Source.read_faults (context_in c.args.at.now).order (IsRowOf c.args.at.now (field c.args.of.now) c.args.kind c.args.run c.args.depth c.args.told.now.items) c.args.asked c.loop-row.row c.loop-row.invariant.ready.room.tree.levels (stand c.args.taker.now c.args.nodes.now c.args.store.now c.args.told.now.items) (stand c.loop-row.taker c.loop-row.nodes c.loop-row.store c.loop-row.told.items) c.len-end.result c.loop-row.invariant.so_far long in
    sym (ap length before ∙ long)

pub read_rows-width_at-width-requires-clause-setting : goal.read_rows-width_at-width-requires-clause-setting
read_rows-width_at-width-requires-clause-setting g t c = c.requires.setting

pub read_rows-width_at-width-requires-clause-field : goal.read_rows-width_at-width-requires-clause-field
read_rows-width_at-width-requires-clause-field g t c = c.requires.field

pub read_rows-read_array-requires : goal.read_rows-read_array-requires
read_rows-read_array-requires g t c κs within =
    let ready = row_ready g.S.Source.left g.S.Source.still g.S.Source.read_faults (context_in c.args.at.now).order (IsRowOf c.args.at.now (field c.args.of.now) c.args.kind c.args.run c.args.depth c.args.told.now.items) c.args.asked c.loop-row.row (3 * c.args.depth + 1) (stand c.args.taker.now c.args.nodes.now c.args.store.now c.args.told.now.items) (stand c.loop-row.taker c.loop-row.nodes c.loop-row.store c.loop-row.told.items) c.loop-row.invariant.ready c.loop-row.invariant.so_far in
    (omega arith, (within, (c.requires.setting, (c.requires.known, ready))))

pub read_rows-returns-in-Err-read_array-clause-trees : goal.read_rows-returns-in-Err-read_array-clause-trees
read_rows-returns-in-Err-read_array-clause-trees g t c = c.read_array.ensures.trees ∙ c.loop-row.invariant.trees

pub read_rows-returns-in-Err-read_array-clause-counted : goal.read_rows-returns-in-Err-read_array-clause-counted
read_rows-returns-in-Err-read_array-clause-counted g t c = c.read_array.ensures.counted

pub read_rows-returns-in-Err-read_array-clause-answers : goal.read_rows-returns-in-Err-read_array-clause-answers
read_rows-returns-in-Err-read_array-clause-answers g t c held tells =
    let long : length c.args.told.now.items ≡ c.len-end.result = omega (arith, c.len-end.ensures, c.args.told.now.ok.0) in
    let before = ap (λ x. take c.len-end.result x) c.deref.ensures.value ∙ row_before g.S.Source.left g.S.Source.still g.S.Source.read_faults (context_in c.args.at.now).order (IsRowOf c.args.at.now (field c.args.of.now) c.args.kind c.args.run c.args.depth c.args.told.now.items) c.args.asked c.loop-row.row c.loop-row.invariant.ready.room.tree.levels (stand c.args.taker.now c.args.nodes.now c.args.store.now c.args.told.now.items) (stand c.loop-row.taker c.loop-row.nodes c.loop-row.store c.loop-row.told.items) c.len-end.result c.loop-row.invariant.so_far long in
    let width : IsLength c.args.at.now (field c.args.of.now) c.args.told.now.items c.loop-row.row c.width_at-width.result = λ held tells. c.width_at-width.ensures held (before ∙ tells) in
    row_fails g.S.Source.left g.S.Source.still g.S.Source.read_faults (context_in c.args.at.now).order (IsRowOf c.args.at.now (field c.args.of.now) c.args.kind c.args.run c.args.depth c.args.told.now.items) (Shape c.args.at.now.schema.now (context_in c.args.at.now) c.args.depth) (Fails c.args.at.now.schema.now (context_in c.args.at.now) c.args.depth) (row_form c.args.at.now (field c.args.of.now) c.args.kind c.args.run held) c.args.asked c.loop-row.row c.args.count c.loop-row.invariant.ready.room.tree.levels
    (stand c.args.taker.now c.args.nodes.now c.args.store.now c.args.told.now.items) (stand c.loop-row.taker c.loop-row.nodes c.loop-row.store c.loop-row.told.items) (stand c.read_array.new.taker c.read_array.new.nodes c.read_array.new.store c.read_array.new.told.items) (cause c.in-Err-read_array.fault)
    (omega arith) (λ i at is. is held tells) c.loop-row.invariant.so_far (row_ceases g.S.Source.left g.S.Source.still g.S.Source.read_faults c.args.at.now (field c.args.of.now) c.args.kind c.args.run c.args.depth c.args.told.now.items c.loop-row.row c.width_at-width.result (stand c.loop-row.taker c.loop-row.nodes c.loop-row.store c.loop-row.told.items) (stand c.read_array.new.taker c.read_array.new.nodes c.read_array.new.store c.read_array.new.told.items) (cause c.in-Err-read_array.fault) held width tells c.in-Err-read_array.ensures.answers)

pub read_rows-settle_item-requires : goal.read_rows-settle_item-requires
read_rows-settle_item-requires g t c =
    let r = c.in-Ok-read_array.ensures.answers in
    let long : length c.loop-row.told.items ≡ c.len-item.result = omega (arith, c.len-item.ensures, c.loop-row.told.ok.0) in
    item_behind c.read_array.new.told.items c.loop-row.told.items r.node c.len-item.result r.told long

pub read_rows-loop-row-smaller : goal.read_rows-loop-row-smaller
read_rows-loop-row-smaller g t c = omega arith

pub read_rows-loop-row-init : goal.read_rows-loop-row-init
read_rows-loop-row-init g t c =
    let ready : IsReady (stand c.args.taker.now c.args.nodes.now c.args.store.now c.args.told.now.items) (3 * c.args.depth + 1 + 1) = ready_less (stand c.args.taker.now c.args.nodes.now c.args.store.now c.args.told.now.items) (3 * c.args.depth + 2) (3 * c.args.depth + 1 + 1) (omega arith) c.requires.ready in
    record {
      trees = c.begin_row.ensures.trees;
      ready = ready;
      so_far = row_first g.S.Source.left g.S.Source.still g.S.Source.read_faults (context_in c.args.at.now).order (IsRowOf c.args.at.now (field c.args.of.now) c.args.kind c.args.run c.args.depth c.args.told.now.items) c.args.asked (3 * c.args.depth + 1 + 1) (stand c.args.taker.now c.args.nodes.now c.args.store.now c.args.told.now.items) (stand c.args.taker.now c.begin_row.new.nodes c.begin_row.new.store c.begin_row.new.told.items) ready refl c.in-Ok.ensures.begins;
    }

pub read_rows-loop-row-preserved : goal.read_rows-loop-row-preserved
read_rows-loop-row-preserved g t c =
    let r = c.in-Ok-read_array.ensures.answers in
    let behind : length c.loop-row.told.items ≡ c.len-item.result = omega (arith, c.len-item.ensures, c.loop-row.told.ok.0) in
    let long : length c.args.told.now.items ≡ c.len-end.result = omega (arith, c.len-end.ensures, c.args.told.now.ok.0) in
    let before = ap (λ x. take c.len-end.result x) c.deref.ensures.value ∙ row_before g.S.Source.left g.S.Source.still g.S.Source.read_faults (context_in c.args.at.now).order (IsRowOf c.args.at.now (field c.args.of.now) c.args.kind c.args.run c.args.depth c.args.told.now.items) c.args.asked c.loop-row.row c.loop-row.invariant.ready.room.tree.levels (stand c.args.taker.now c.args.nodes.now c.args.store.now c.args.told.now.items) (stand c.loop-row.taker c.loop-row.nodes c.loop-row.store c.loop-row.told.items) c.len-end.result c.loop-row.invariant.so_far long in
    let width : IsLength c.args.at.now (field c.args.of.now) c.args.told.now.items c.loop-row.row c.width_at-width.result = λ held tells. c.width_at-width.ensures held (before ∙ tells) in
    record {
      trees = c.read_array.ensures.trees ∙ c.loop-row.invariant.trees;
      ready = c.loop-row.invariant.ready;
      so_far = row_more g.S.Source.left g.S.Source.still g.S.Source.read_faults (context_in c.args.at.now).order (IsRowOf c.args.at.now (field c.args.of.now) c.args.kind c.args.run c.args.depth c.args.told.now.items) (IsForm (Shape c.args.at.now.schema.now (context_in c.args.at.now) c.args.depth) (row_of c.args.run (kind_of c.args.at.now.schema.now c.args.kind) c.width_at-width.result)) (member_told false) c.args.asked c.loop-row.row c.loop-row.invariant.ready.room.tree.levels
          (stand c.args.taker.now c.args.nodes.now c.args.store.now c.args.told.now.items) (stand c.loop-row.taker c.loop-row.nodes c.loop-row.store c.loop-row.told.items) (stand c.read_array.new.taker c.read_array.new.nodes c.read_array.new.store c.read_array.new.told.items) (stand c.read_array.new.taker c.read_array.new.nodes c.read_array.new.store c.settle_item.new.told.items)
          c.loop-row.invariant.so_far r (λ at is. row_is c.args.at.now (field c.args.of.now) c.args.kind c.args.run c.args.depth c.args.told.now.items c.loop-row.row c.width_at-width.result at width is) refl refl refl (c.settle_item.ensures c.loop-row.told.items r.node r.told behind);
    }

pub read_rows-close-requires : goal.read_rows-close-requires
read_rows-close-requires g t c = row_closes g.S.Source.left g.S.Source.still g.S.Source.read_faults (context_in c.args.at.now).order (IsRowOf c.args.at.now (field c.args.of.now) c.args.kind c.args.run c.args.depth c.args.told.now.items) c.args.asked c.loop-row.row c.loop-row.invariant.ready.room.tree.levels (stand c.args.taker.now c.args.nodes.now c.args.store.now c.args.told.now.items) (stand c.loop-row.taker c.loop-row.nodes c.loop-row.store c.loop-row.told.items) c.loop-row.invariant.so_far

pub read_rows-end_items-requires : goal.read_rows-end_items-requires
read_rows-end_items-requires g t c =
    let long : length c.args.told.now.items ≡ c.len-end.result = omega (arith, c.len-end.ensures, c.args.told.now.ok.0) in
    row_behind g.S.Source.left g.S.Source.still g.S.Source.read_faults (context_in c.args.at.now).order (IsRowOf c.args.at.now (field c.args.of.now) c.args.kind c.args.run c.args.depth c.args.told.now.items) c.args.asked c.loop-row.row c.loop-row.invariant.ready.room.tree.levels (stand c.args.taker.now c.args.nodes.now c.args.store.now c.args.told.now.items) (stand c.loop-row.taker c.loop-row.nodes c.loop-row.store c.loop-row.told.items) c.len-end.result c.loop-row.invariant.so_far long

pub read_rows-returns-clause-trees : goal.read_rows-returns-clause-trees
read_rows-returns-clause-trees g t c = c.close.ensures.trees ∙ c.loop-row.invariant.trees

pub read_rows-returns-clause-counted : goal.read_rows-returns-clause-counted
read_rows-returns-clause-counted g t c = c.loop-row.invariant.so_far.goes.counted

pub read_rows-returns-clause-answers : goal.read_rows-returns-clause-answers
read_rows-returns-clause-answers g t c held tells =
    let long : length c.args.told.now.items ≡ c.len-end.result = omega (arith, c.len-end.ensures, c.args.told.now.ok.0) in
    let s = c.loop-row.invariant.so_far in
    row_done g.S.Source.left g.S.Source.still g.S.Source.read_faults (context_in c.args.at.now).order (IsRowOf c.args.at.now (field c.args.of.now) c.args.kind c.args.run c.args.depth c.args.told.now.items) (Shape c.args.at.now.schema.now (context_in c.args.at.now) c.args.depth) (row_form c.args.at.now (field c.args.of.now) c.args.kind c.args.run held) c.args.asked c.loop-row.row c.args.count (3 * c.args.depth + 1 + 1)
    (stand c.args.taker.now c.args.nodes.now c.args.store.now c.args.told.now.items) (stand c.loop-row.taker c.loop-row.nodes c.loop-row.store c.loop-row.told.items) (stand c.loop-row.taker c.loop-row.nodes c.close.new.self c.end_items.new.told.items)
    c.loop-row.invariant.ready (omega arith) (λ i at is. is held tells) s refl refl c.close.ensures.building
    (c.end_items.ensures c.args.told.now.items (items_kept c.args.asked s.held) s.told long)

pub read_value-form_of-kind-requires-clause-setting : goal.read_value-form_of-kind-requires-clause-setting
read_value-form_of-kind-requires-clause-setting g t c = c.requires.setting

pub read_value-form_of-kind-requires-clause-field : goal.read_value-form_of-kind-requires-clause-field
read_value-form_of-kind-requires-clause-field g t c = c.requires.field

pub read_value-asks_items-asked-requires : goal.read_value-asks_items-asked-requires
read_value-asks_items-asked-requires g t c = c.requires.setting

pub read_value-asks_items-asked-requires-in-Rows : goal.read_value-asks_items-asked-requires-in-Rows
read_value-asks_items-asked-requires-in-Rows g t c = c.requires.setting

pub read_value-read_one-requires : goal.read_value-read_one-requires
read_value-read_one-requires g t c κs le =
    let is : 7 * c.args.depth + 4 ≡ t = c.decreases in
    let less : 7 * c.args.depth < t = omega (arith, is) in
    (less, (le, (c.requires.setting, (c.form_of-kind.ensures.known, ready_less (stand c.args.taker.now c.args.nodes.now c.args.store.now c.args.told.now.items) (3 * c.args.depth + 2) (3 * c.args.depth) (omega arith) c.requires.ready))))

pub read_value-read_array-requires : goal.read_value-read_array-requires
read_value-read_array-requires g t c κs le =
    let is : 7 * c.args.depth + 4 ≡ t = c.decreases in
    let less : 7 * c.args.depth + 2 < t = omega (arith, is) in
    (less, (le, (c.requires.setting, (c.form_of-kind.ensures.known, ready_less (stand c.args.taker.now c.args.nodes.now c.args.store.now c.args.told.now.items) (3 * c.args.depth + 2) (3 * c.args.depth + 1) (omega arith) c.requires.ready))))

pub read_value-read_rows-requires : goal.read_value-read_rows-requires
read_value-read_rows-requires g t c κs le =
    let is : 7 * c.args.depth + 4 ≡ t = c.decreases in
    let less : 7 * c.args.depth + 3 < t = omega (arith, is) in
    (less, (le, (c.requires.setting, (c.requires.field, (c.form_of-kind.ensures.known, c.requires.ready)))))

pub read_value-returns-in-One-clause-trees : goal.read_value-returns-in-One-clause-trees
read_value-returns-in-One-clause-trees g t c = c.read_one.ensures.trees

pub read_value-returns-in-One-clause-counted : goal.read_value-returns-in-One-clause-counted
read_value-returns-in-One-clause-counted g t c = c.read_one.ensures.counted

pub read_value-returns-in-One-clause-answers : goal.read_value-returns-in-One-clause-answers
read_value-returns-in-One-clause-answers g t c held tells =
    let kind = kind_of c.args.at.now.schema.now c.form_of-kind.result.0 in
    let width = width_of (width_at c.args.at.now.schema.now (context_in c.args.at.now) (earlier c.args.at.now held) c.args.at.now.arg) (field c.args.of.now).width in
    let new = stand c.read_one.new.taker c.read_one.new.nodes c.read_one.new.store c.read_one.new.told.items in
    of_form g.S.Source.left g.S.Source.still g.S.Source.read_faults c.args.at.now c.args.depth (earlier c.args.at.now held) (field c.args.of.now) (One kind) (asks c.args.at.now.schema.now c.args.at.now.number (field c.args.of.now)) (asks c.args.at.now.schema.now c.args.at.now.number (field c.args.of.now)) (stand c.args.taker.now c.args.nodes.now c.args.store.now c.args.told.now.items) new c.read_one.result
    (c.form_of-kind.ensures.form held (c.deref.ensures.value ∙ tells) ∙ ap (λ size. form_of_size kind width size) c.in-One.is) refl
    (as_one g.S.Source.left g.S.Source.still g.S.Source.read_faults c.args.at.now.schema.now (context_in c.args.at.now) c.args.depth kind (asks c.args.at.now.schema.now c.args.at.now.number (field c.args.of.now)) (stand c.args.taker.now c.args.nodes.now c.args.store.now c.args.told.now.items) new c.read_one.result c.read_one.ensures.answers)

pub read_value-returns-in-Array-clause-trees : goal.read_value-returns-in-Array-clause-trees
read_value-returns-in-Array-clause-trees g t c = c.read_array.ensures.trees

pub read_value-returns-in-Array-clause-counted : goal.read_value-returns-in-Array-clause-counted
read_value-returns-in-Array-clause-counted g t c = c.read_array.ensures.counted

pub read_value-returns-in-Array-clause-answers : goal.read_value-returns-in-Array-clause-answers
read_value-returns-in-Array-clause-answers g t c held tells =
    let kind = kind_of c.args.at.now.schema.now c.form_of-kind.result.0 in
    let width = width_of (width_at c.args.at.now.schema.now (context_in c.args.at.now) (earlier c.args.at.now held) c.args.at.now.arg) (field c.args.of.now).width in
    let new = stand c.read_array.new.taker c.read_array.new.nodes c.read_array.new.store c.read_array.new.told.items in
    of_form g.S.Source.left g.S.Source.still g.S.Source.read_faults c.args.at.now c.args.depth (earlier c.args.at.now held) (field c.args.of.now) (row_of c.in-Array.run' kind c.in-Array.count) c.asks_items-asked.result (asks c.args.at.now.schema.now c.args.at.now.number (field c.args.of.now)) (stand c.args.taker.now c.args.nodes.now c.args.store.now c.args.told.now.items) new c.read_array.result
    (c.form_of-kind.ensures.form held (c.deref.ensures.value ∙ tells) ∙ ap (λ size. form_of_size kind width size) c.in-Array.is) c.asks_items-asked.ensures
    c.read_array.ensures.answers

pub read_value-returns-in-Rows-clause-trees : goal.read_value-returns-in-Rows-clause-trees
read_value-returns-in-Rows-clause-trees g t c = c.read_rows.ensures.trees

pub read_value-returns-in-Rows-clause-counted : goal.read_value-returns-in-Rows-clause-counted
read_value-returns-in-Rows-clause-counted g t c = c.read_rows.ensures.counted

pub read_value-returns-in-Rows-clause-answers : goal.read_value-returns-in-Rows-clause-answers
read_value-returns-in-Rows-clause-answers g t c held tells =
    let kind = kind_of c.args.at.now.schema.now c.form_of-kind.result.0 in
    let width = width_of (width_at c.args.at.now.schema.now (context_in c.args.at.now) (earlier c.args.at.now held) c.args.at.now.arg) (field c.args.of.now).width in
    let new = stand c.read_rows.new.taker c.read_rows.new.nodes c.read_rows.new.store c.read_rows.new.told.items in
    of_form g.S.Source.left g.S.Source.still g.S.Source.read_faults c.args.at.now c.args.depth (earlier c.args.at.now held) (field c.args.of.now) (Row c.in-Rows.count (λ i. row_of c.in-Rows.run' kind (width i))) c.asks_items-asked-in-Rows.result (asks c.args.at.now.schema.now c.args.at.now.number (field c.args.of.now)) (stand c.args.taker.now c.args.nodes.now c.args.store.now c.args.told.now.items) new c.read_rows.result
    (c.form_of-kind.ensures.form held (c.deref.ensures.value ∙ tells) ∙ ap (λ size. form_of_size kind width size) c.in-Rows.is) c.asks_items-asked-in-Rows.ensures
    (c.read_rows.ensures.answers held tells)

pub read_group-loop-of-init : goal.read_group-loop-of-init
read_group-loop-of-init g t c = record {
  trees = c.in-Ok.ensures.trees;
  fields = sym (c.into_iter-of-iterator.ensures.into_iter_gives ∙ c.line_of-of-items.ensures.value);
  so_far = λ r.
      subst (λ es. GroupSoFar g.S.Source.left g.S.Source.still g.S.Source.read_faults c.args.at.now c.args.depth [] r.room.tree.levels (stand c.args.taker.now c.args.nodes.now c.args.store.now c.args.told.now.items) (stand c.args.taker.now c.begin_group.new.nodes c.begin_group.new.store es))
      (sym c.new-entries.ensures.items)
      (group_first g.S.Source.left g.S.Source.still g.S.Source.read_faults c.args.at.now c.args.depth (3 * c.args.depth + 3) (stand c.args.taker.now c.args.nodes.now c.args.store.now c.args.told.now.items) (stand c.args.taker.now c.begin_group.new.nodes c.begin_group.new.store []) r refl c.in-Ok.ensures.begins);
}

pub read_group-loop-of-preserved : goal.read_group-loop-of-preserved
read_group-loop-of-preserved g t c =
    let own = λ (f : Bor kept_field.Field). field f.now in
    let front = map own c.loop-of.yielded in
    let f = field c.in-Some.of.now in
    let e = c.loop-of.invariant.fields ∙ ap (λ rest. map own c.loop-of.yielded ++ rest) c.in-Some.ensures.steps in
    let new = stand c.read_member.new.taker c.read_member.new.nodes c.read_member.new.store c.read_member.new.told.items in
    record {
      trees = c.in-Ok-read_member.ensures.trees ∙ c.loop-of.invariant.trees;
      fields = e ∙ passed_next own c.loop-of.yielded c.in-Some.of c.next.new.self;
      so_far = λ r.
          let s = c.loop-of.invariant.so_far r in
          subst (λ fields. GroupSoFar g.S.Source.left g.S.Source.still g.S.Source.read_faults c.args.at.now c.args.depth fields r.room.tree.levels (stand c.args.taker.now c.args.nodes.now c.args.store.now c.args.told.now.items) new)
          (sym (map-append own c.loop-of.yielded (c.in-Some.of ∷ [])))
          (group_step g.S.Source.left g.S.Source.still g.S.Source.read_faults c.args.at.now c.args.depth front c.next.new.self f r.room.tree.levels (stand c.args.taker.now c.args.nodes.now c.args.store.now c.args.told.now.items) (stand c.loop-of.taker c.loop-of.nodes c.loop-of.store c.loop-of.entries.items) new e s
          (c.in-Ok-read_member.ensures.answers s.held s.tells));
    }
