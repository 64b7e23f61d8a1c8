-- What the proofs of this crate take from the library, from the crates below and from its own definitions.
pub use Rattle.std.proofs.Common.{Bool, Err, IfSome, IsOk, IsTrue, List, None, Ok, Option, Result, Some, [], add-zero, ap, append_assoc}
pub use Rattle.std.proofs.Common.{arith, cond, drop, eqb, false, get_or, inl, inr, is_ok, is_some, leb, length, ltb, not, option_to_list}
pub use Rattle.std.proofs.Common.{refl, rules, subst, suc, sym, take, true, zero, zero-add, ℕ, ◌%◌, ◌&&◌, ◌*◌, ◌++◌, ◌+◌, ◌-◌, ◌/◌, ◌<◌}
pub use Rattle.std.proofs.Common.{◌^◌, ◌∙◌, ◌∷◌, ◌≡◌, ◌≤◌, ◌⊎◌}
pub use Rattle.std.proofs.Math.Pow.{pow_mono}
pub use Rattle.std.proofs.lemmas.Bool.{and_parts, cases_Bool, cases_eq, eq-eqb, eqb-false, eqb-true, false≢true, le-leb, le-ltb, leb-false}
pub use Rattle.std.proofs.lemmas.Bool.{leb-true, lt-leb, ltb-false, ltb-true, ne_eqb, not-false, or_parts}
pub use Rattle.std.proofs.lemmas.List.{append-nil, drop-drop, drop-take, drop_all, drop_at, length-append, length-drop, length-take}
pub use Rattle.std.proofs.lemmas.List.{length-take-le, map-append, nil_from_length, take-append-drop, take_all, take_at}
pub use Rattle.std.proofs.lemmas.List.Concat.{flat_map-append}
pub use Rattle.std.proofs.lemmas.List.Elements.{filter-append}
pub use Rattle.std.proofs.lemmas.Result.{err_from_is_err_and}
pub use Rattle.std.specs.List.{AllByRecursion, flat_map}
pub use Rattle.std.specs.Result.{result_unwrap_or}
pub use Rattle.osi_unit.proofs.lists_of_octets_stay_octets.{octets_append, octets_drop, octets_left, octets_nil, octets_right, octets_take}
pub use Rattle.osi_unit.specs.Octets.{IsOctets}
pub use Rattle.osi_unit.specs.Unit.{IsAtFront}
pub use Rattle.osi_tpdu.specs.Faults.{Acknowledge, Additional, Alternative, BeginsUnit, BeginsWith, Called, Calling, Confirm, Disconnect}
pub use Rattle.osi_tpdu.specs.Faults.{Disconnected, HasBadIndicator, HasBadLength, HasBadValue, HasCode, HasFault, HasHeader, HasItemFault}
pub use Rattle.osi_tpdu.specs.Faults.{HasNoHeader, HasParameterFault, HasParametersBehind, IsFirst, IsUnitFault, Kind, LooksAtParameters}
pub use Rattle.osi_tpdu.specs.Faults.{MayBeLong, MayCount, MayHold, Parameter, Report, Request, Size, Transfer, code_of, place_of}
pub use Rattle.osi_tpdu.specs.Packet.{AreLeads, AreUnits, Follows, IsFirstFault}
unfoldable pub use Rattle.osi_tpdu.specs.Packet.{units_at, units_of}
pub use Rattle.osi_tpdu.specs.Reading.{all_skipped_at, known_at, no_parameters, reference_at, used_by, ◌>>=◌}
unfoldable pub use Rattle.osi_tpdu.specs.Rest.{can_be_read, rest_at}
pub use Rattle.osi_tpdu.specs.Spelling.{IsHeader, Item, Means, Spells, below_bit, connect_part, item_octets, single, two, values_of}
pub use Rattle.osi_tpdu.specs.Value.{AreParameters, Connect, HasFieldsInRange, IsConnect, IsReference, Parameters, Value, acknowledge}
pub use Rattle.osi_tpdu.specs.Value.{confirm, data0, data2, disconnect, disconnected, error, may_be_followed, request, user_data}
pub use Rattle.osi_tpdu.specs.View.{parameter_values, value}
pub use Rattle.osi_tpdu.specs.Writing.{Fits, HasFewClasses, HasRoom, items_of, written, written_header, written_items}
pub use Rattle.osi_tpdu.specs.declared.connect.ConnectParameters.{ConnectParameters}
pub use Rattle.osi_tpdu.specs.declared.faults.TpduFault.{TpduFault}
pub use Rattle.osi_tpdu.specs.declared.faults.TpduFault.TheVariants.{BadLi, BadParameterLength, BadParameterValue, DuplicateParameter}
pub use Rattle.osi_tpdu.specs.declared.faults.TpduFault.TheVariants.{UnknownCode}
pub use Rattle.osi_tpdu.specs.declared.unit.Tpdu.{Tpdu}
unfoldable pub use Rattle.osi_tpdu.specs.Reading.{
  acknowledge_of,
  confirm_of,
  connect_of,
  disconnect_of,
  disconnected_of,
  error_of,
  header_at,
  is_lead_code,
  parameter_at,
  parameters_at,
  request_of,
  skipped_at,
  transfer_of,
  unit_at,
  value_of,
  with_additional,
  with_alternative,
  with_called,
  with_calling,
  with_parameter,
  with_size,
}
