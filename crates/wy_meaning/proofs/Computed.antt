-- What an example says of a run, and the words that a small program is written in.
use Rattle.std.specs.Prelude.{ℕ, Bool, false, if◌then◌else◌, List, [], ◌∷◌, Option, drop, map}
use Rattle.std.specs.Fmt.{digits as fmt_digits}
use Rattle.std.specs.Int.{int_wrap}
use Rattle.std.specs.Char.Utf16.{utf16_chars}
use Rattle.wy_kernel.specs.declared.types.Ty.{Ty}
use Rattle.wy_kernel.specs.declared.types.MethodForm.{MethodForm}
use Rattle.wy_kernel.specs.Form.{Statement}
use Rattle.wy_kernel.specs.Program as part
use Rattle.wy_value.specs.declared.value.Value.{Value}
use Rattle.wy_event.specs.declared.record.Kind.{Kind}
use Rattle.wy_event.specs.declared.record.Slot.{Slot}
use Rattle.wy_event.specs.declared.record.Use.{Use}
use Rattle.wy_event.specs.Record.{Recorded}
use Rattle.wy_event.specs.Numbers.{Numbers}
use Rattle.wy_steps.specs.Sets.{nothing as carries_nothing}
use Rattle.wy_steps.specs.State.{Covered}
use Rattle.wy_meaning.specs.Run.{Tail}
use Rattle.wy_kernel.specs.Program.{class, method, field, body, init_body, fixed_text, local_site, is_source, full_name, primitive_name, primitive_code, base_code, type_code, base_of, type_of_code, element_type, class_of_type, is_array, is_one_of, is_above, class_below, is_subclass, same_primitive, base_below, is_object, brackets_below, is_below, same_units, same_types, is_instance, runs_as, declared_in, or_above, find_method, dispatch}
use Rattle.wy_event.specs.Numbers.{none, only, union, union_of}
use Rattle.wy_event.specs.Record.{recorded, same_slot}
use Rattle.wy_kernel.specs.View.{present}
use Rattle.wy_event.specs.Sources.{is_write, writes, is_entity, creates_as, creates, is_so, or_else, written, creation, last_write, with_role, use_source, use_sources, event_sources, sources_of, sources, is_data, source_events, closure_within, closure, data_closure}
use Rattle.wy_steps.specs.State.{go_on, ◌>>=◌, ◌>>◌, return, leave, stop, go_on_left, catching, choose}
use Rattle.wy_steps.specs.Steps.{constant, with_value, joined, joined_all, value_of, chosen, pay, tick, steps_left, frame, event_in, event_at, is_init_of, has_init, is_begun, held_of, read, slot_with, no_value, declare, parent, control_set, next_event, made, with_event, room_for, noting, note, held_by, with_stored, writing, note_write, default_primitive, default_value, code_of, default_in, owner_in, if_empty, with_created, creating, note_new, with_active, entered, go_in, activating, active_again, scoped, same_frame, ends_with, outlasting, without, end_reaches, reaching, frame_again, in_frame, with_elements, take_elements, with_units, take_units, room_for_output, write_out, take_byte, next_byte, cover_with, covering, first_moment, begun, ended, left_by, stop_cause, event_of, arrives, end_normally, be_left, cover_end, covered}
use Rattle.wy_meaning.specs.Array.{make_array, for_each, subarrays, is_negative, any_negative, make_arrays, create_array, first_site, rest_sites, set_elements, create_filled, new_array}
use Rattle.wy_meaning.specs.Call.{call_uses, bound, bind_all, is_void, end_body, at_return, run_body, frame_of_call, call_method, at_failure, initialize_above, initialization, text_equals, call_on_text, call_form, call_on, call_static, construct, create}
use Rattle.wy_meaning.specs.Expression.{constant_value, part_or, update, unary, binary, convert, cast, instance_of, arm, conditional, call, eval, locate, eval_part, eval_row}
use Rattle.wy_meaning.specs.Library.{text_arg, int_in, unit_or_fail, part_or_fail, int_or_fail, parse, absolute, greater, lesser, byte_value, read_byte, base_name, brackets_text, type_name, number_of_object, hexadecimal, library_one, library_two, library_three, library, library_form}
use Rattle.wy_meaning.specs.Place.{initialize_source, initialize, local_spot, static_spot, field_spot, index_in, checked_index, element_spot, find, lacks_value, fetch, read_place, assign, may_store, check_store, store, set_place, promoted, operated, primitive_of, divided, update_place}
use Rattle.wy_meaning.specs.Run.{call_body, init_block, world, main_run, start, outcome, end, stop_number, stop_of, last_of_stop, last_of_reason, last_of, covers, tail_of, history, events, output, tail, final_store}
use Rattle.wy_meaning.specs.Statement.{statement, armed, tested, evaluated, declaration, if_form, turns, while_form, do_form, for_test, for_form, jump, return_form, throw_form, caught, handle, at_throw, finally, try_form, print_form, other_or, exec, exec_act, exec_other, exec_all, exec_catches}
use Rattle.wy_meaning.specs.Text.{call_chosen, shown_as, shown, spelled_as, make_text, concatenated, cat, append_place, line_end, print, print_value, print_nothing}
use Rattle.wy_meaning.specs.World.{plain, about, into, spelling, class_code, throwing, fail, is_true, arm_of_truth, type_in, type_of, units_in, units_of, natural_of, length_in, length_of, is_text, is_null, object_of, all_of}

pub record Told : Type 0 where
  pub events : List Recorded
  pub output : List ℕ
  pub stop : ℕ
  pub last : Option ℕ
  pub steps : ℕ
  pub uses : ℕ
  pub coverage : List Covered

abbrev pub built_in_statements : ℕ
built_in_statements = 74

abbrev pub tell : List Recorded → List ℕ → Tail → Told
tell es bytes t = record { events = es; output = bytes; stop = t.stop; last = t.last; steps = t.steps; uses = t.uses; coverage = drop built_in_statements t.coverage }

-- the run of a program, with the coverage of the statements of its text
unfoldable pub told : part.Program → List ℕ → ℕ → Told
unfolding package.lib.Utf8.encode int_wrap fmt_digits utf16_chars class method field body init_body fixed_text local_site is_source full_name primitive_code base_code type_code base_of type_of_code element_type class_of_type is_array is_one_of is_above class_below is_subclass same_primitive base_below is_object brackets_below is_below same_units same_types is_instance runs_as declared_in or_above find_method dispatch none only union union_of present recorded same_slot is_write writes is_entity creates_as creates is_so or_else written creation last_write with_role use_source use_sources event_sources sources_of sources is_data source_events closure_within closure data_closure go_on ◌>>=◌ ◌>>◌ return leave stop go_on_left catching choose constant with_value joined joined_all value_of chosen pay tick steps_left frame event_in event_at is_init_of has_init is_begun held_of read slot_with no_value declare parent control_set next_event made with_event room_for noting note held_by with_stored writing note_write default_primitive default_value code_of default_in owner_in if_empty with_created creating note_new with_active entered go_in activating active_again scoped same_frame ends_with outlasting without end_reaches reaching frame_again in_frame with_elements take_elements with_units take_units room_for_output write_out take_byte next_byte cover_with covering first_moment begun ended left_by stop_cause event_of arrives end_normally be_left cover_end covered make_array for_each subarrays is_negative any_negative make_arrays create_array first_site rest_sites set_elements create_filled new_array call_uses bound bind_all is_void end_body at_return run_body frame_of_call call_method at_failure initialize_above initialization text_equals call_on_text call_form call_on call_static construct create constant_value part_or update unary binary convert cast instance_of arm conditional call eval locate eval_part eval_row text_arg int_in unit_or_fail part_or_fail int_or_fail parse absolute greater lesser byte_value read_byte primitive_name base_name brackets_text type_name number_of_object hexadecimal library_one library_two library_three library library_form initialize_source initialize local_spot static_spot field_spot index_in checked_index element_spot find lacks_value fetch read_place assign may_store check_store store set_place promoted operated primitive_of divided update_place call_body init_block world main_run start outcome end stop_number stop_of last_of_stop last_of_reason last_of covers tail_of history events output tail final_store statement armed tested evaluated declaration if_form turns while_form do_form for_test for_form jump return_form throw_form caught handle at_throw finally try_form print_form other_or exec exec_act exec_other exec_all exec_catches call_chosen shown_as shown spelled_as make_text concatenated cat append_place line_end print print_value print_nothing plain about into spelling class_code throwing fail is_true arm_of_truth type_in type_of units_in units_of natural_of length_in length_of is_text is_null object_of all_of
told p input budget = tell (events carries_nothing p input budget) (output carries_nothing p input budget) (tail carries_nothing p input budget)

abbrev pub numbers_in : Numbers → ℕ → ℕ → List ℕ
numbers_in f i ℕ.zero = []
numbers_in f i (ℕ.suc n) = if f i then i ∷ numbers_in f (ℕ.suc i) n else numbers_in f (ℕ.suc i) n

abbrev pub event : Kind → ℕ → Option ℕ → Option ℕ → Option ℕ → Slot → Value → List ℕ → List Use → Recorded
event k site f c w x v us ps = record { kind = k; site = site; frame = f; control = c; entity = w; slot = x; value = v; units = us; uses = ps }

abbrev pub cover : ℕ → ℕ → Option ℕ → ℕ → Covered
cover b e f c = record { begins = b; ends = e; first = f; cause = c }

abbrev pub class_named : List ℕ → ℕ → Option ℕ → List ℕ → part.Class
class_named name site above interfaces = record { name = name; site = site; is_interface = false; is_abstract = false; is_final = false; above = above; interfaces = interfaces }

abbrev pub method_named : List ℕ → ℕ → ℕ → List Ty → Ty → MethodForm → part.Method
method_named name site c params result form = record { name = name; site = site; class = c; params = params; result = result; form = form; is_private = false; is_abstract = false; is_final = false }

abbrev pub field_named : List ℕ → ℕ → ℕ → Ty → Bool → part.Field
field_named name site c ty is_static = record { name = name; site = site; class = c; ty = ty; is_static = is_static; is_final = false; is_fixed = false; is_private = false }

abbrev pub local_at : Ty → ℕ → part.Local
local_at ty site = record { name = []; site = site; ty = ty }

abbrev pub body_with : Statement → List ℕ → ℕ → part.Body
body_with block sites end = record { block = block; locals = map (local_at Ty.Void) sites; end = end }
