-- What the proofs of this crate take from the library, from the crates below and from its own definitions.
pub use Rattle.std.proofs.Common.{Bool, Err, IfOk, IsOkAnd, IsSome, List, MatchOption, None, Ok, Option, Result, Some, [], add-zero, ap}
pub use Rattle.std.proofs.Common.{append_assoc, arith, cond, drop, eqb, false, get_or, get_or-set_other, get_or-set_same, if◌then◌else◌}
pub use Rattle.std.proofs.Common.{inl, inr, is_none, is_ok, is_some, leb, length, ltb, map, not, option_map, refl, rules, set, subst, suc}
pub use Rattle.std.proofs.Common.{sym, take, true, zero, ℕ, ◌&&◌, ◌*◌, ◌++◌, ◌+◌, ◌-◌, ◌<◌, ◌==◌, ◌^◌, ◌||◌, ◌∙◌, ◌∷◌, ◌≡◌, ◌≤◌, ◌⊎◌}
pub use Rattle.std.proofs.lemmas.Bool.{and_from, and_left, and_parts, and_right, both_ways, cases_Bool, cases_lt, eq-eqb, eqb-false}
pub use Rattle.std.proofs.lemmas.Bool.{eqb-true, le-leb, le-ltb, leb-true, lt-ltb, ltb-false, ltb-true, ne_eqb, not-true, or_cases, or_left}
pub use Rattle.std.proofs.lemmas.Bool.{or_parts, or_right}
pub use Rattle.std.proofs.lemmas.Grind.{common_steps}
pub use Rattle.std.proofs.lemmas.List.{append-nil, drop_all, drop_at, drop_more, get_or-drop, get_or-take, get_or_past, length-append}
pub use Rattle.std.proofs.lemmas.List.{length-drop, length-set, length-take, length-take-le, nil_from_length, take-append-drop, take_all}
pub use Rattle.std.proofs.lemmas.List.{take_at, take_more_set}
pub use Rattle.std.proofs.lemmas.Nat.{and_assoc}
pub use Rattle.std.proofs.lemmas.Result.{err_from_is_err_and}
pub use Rattle.std.specs.List.{AllByRecursion, find, flat_map, list_all, list_any, slice_get}
pub use Rattle.std.specs.Result.{result_unwrap_or}
pub use Rattle.osi_unit.specs.Octets.{IsOctets}
pub use Rattle.osi_unit.specs.Unit.{IsAtFront}
pub use Rattle.osi_spdu.specs.Behind.{AreLeft}
unfoldable pub use Rattle.osi_spdu.specs.Behind.{is_behind, left_at}
pub use Rattle.osi_spdu.specs.Codes.{every_code, is_same}
unfoldable pub use Rattle.osi_spdu.specs.Codes.{is_group, number_of, slot_of}
pub use Rattle.osi_spdu.specs.Faults.{Failing, Fills, HasNoValue, IsBodyFault, IsCrowded, IsFaultAfter, IsFaultBehind, IsFirstFault}
pub use Rattle.osi_spdu.specs.Faults.{IsFirstMissing, IsItemFault, IsLevelFault, IsNamedFault, IsUnitFault, IsValueFault, indicator_len}
unfoldable pub use Rattle.osi_spdu.specs.Faults.{FailsInGroup, FailsInUnit}
pub use Rattle.osi_spdu.specs.Fields.{setting_octets, token_octets, tokens_alone}
pub use Rattle.osi_spdu.specs.Found.{later_of, placed_of}
pub use Rattle.osi_spdu.specs.Groups.{GivesBehind, units_behind, units_from, units_of}
pub use Rattle.osi_spdu.specs.Kept.{kept_of}
unfoldable pub use Rattle.osi_spdu.specs.Kinds.{category_of, codes_of, kind_named, may_stand, members_of, required_of, si_of}
pub use Rattle.osi_spdu.specs.Known.{Contents, Known, Units, nothing, put, settled, some_octets}
pub use Rattle.osi_spdu.specs.Made.{accept_params, connect_params, made}
pub use Rattle.osi_spdu.specs.Octets.{octets_of}
pub use Rattle.osi_spdu.specs.Params.{filled, has_octets, lent_len, no_params, present}
unfoldable pub use Rattle.osi_spdu.specs.Params.{cells_of, is_settled, known_of, place_of, slots_of}
pub use Rattle.osi_spdu.specs.Reading.{Gives, Measured, Next, Placed, Taking, code_among, contents_of, continued, counted_at, crowded}
pub use Rattle.osi_spdu.specs.Reading.{member_taken, next_if, parameter_taken, params_of, placed_kind, takes_rest, ◌>>=◌}
pub use Rattle.osi_spdu.specs.Spelling.{AreBehind, AreUnits, EndsTsdu, GroupOf, HasInformation, HasLength, IsAll, IsPart, KnownOf}
pub use Rattle.osi_spdu.specs.Spelling.{MayFollow, MemberOf, ParameterOf, Part, Sole, Spells, SpellsUnit, item_octets, length_octets, only}
pub use Rattle.osi_spdu.specs.Spelling.{part_octets}
unfoldable pub use Rattle.osi_spdu.specs.Spelling.{MeansInGroup, MeansInUnit, SpellsTsdu, StandTogether}
pub use Rattle.osi_spdu.specs.UnitLengths.{AreHeld, AreLengths, body_length}
unfoldable pub use Rattle.osi_spdu.specs.UnitLengths.{held}
pub use Rattle.osi_spdu.specs.Units.{said_by}
pub use Rattle.osi_spdu.specs.Values.{decimal, is_digit, is_setting, numeral, octet_if, six_digits, token_bits}
unfoldable pub use Rattle.osi_spdu.specs.Values.{canonical, canonical_in, decimal_from, digits_of, may_enclose, significant}
pub use Rattle.osi_spdu.specs.Writing.{IsCanonical, IsFormedTsdu, IsFormedUnit, TsduFits, UnitFits, among, is_enclosed, is_informed}
pub use Rattle.osi_spdu.specs.Writing.{may_be_there, member_octets, parameter_octets, tsdu_octets, value_len, value_octets}
pub use Rattle.osi_spdu.specs.declared.behind.Behind.{Behind}
pub use Rattle.osi_spdu.specs.declared.codes.Code.{Code}
pub use Rattle.osi_spdu.specs.declared.codes.Code.TheVariants.{AdditionalReference, CalledReference, CallingReference, CommonReference}
pub use Rattle.osi_spdu.specs.declared.codes.Code.TheVariants.{ConnectAcceptItem, ConnectionIdentifier, Enclosure, ExtendedUserData, Number}
pub use Rattle.osi_spdu.specs.declared.codes.Code.TheVariants.{Reason, Reflect, UserData}
pub use Rattle.osi_spdu.specs.declared.faults.SpduFault.{SpduFault}
pub use Rattle.osi_spdu.specs.declared.faults.SpduFault.TheVariants.{BadValue, DuplicateParameter, LengthPastEnd, TrailingOctets}
pub use Rattle.osi_spdu.specs.declared.fields.TsduMaximumSize.{TsduMaximumSize}
pub use Rattle.osi_spdu.specs.declared.groups.Group.{Group}
pub use Rattle.osi_spdu.specs.declared.kinds.Category.{Category}
pub use Rattle.osi_spdu.specs.declared.kinds.Category.TheVariants.{One, Two, Zero}
pub use Rattle.osi_spdu.specs.declared.kinds.Kind.{Kind}
pub use Rattle.osi_spdu.specs.declared.kinds.Kind.TheVariants.{Accept, Connect}
pub use Rattle.osi_spdu.specs.declared.params.Params.{Params}
pub use Rattle.osi_spdu.specs.declared.reading.Found.{Found}
pub use Rattle.osi_spdu.specs.declared.settings.TokenSetting.{TokenSetting}
pub use Rattle.osi_spdu.specs.declared.tokens.TokenSet.{TokenSet}
pub use Rattle.osi_spdu.specs.declared.units.Spdu.{Spdu}
pub use Rattle.osi_spdu.specs.declared.writing.GroupLengths.{GroupLengths}
unfoldable pub use Rattle.osi_spdu.specs.Reading.{
  all_there,
  behind_at,
  in_group,
  in_unit,
  long_at,
  measured_at,
  next_at,
  parameter_at,
  params_at,
  stored,
  tsdu_at,
  unit_at,
}
unfoldable pub use Rattle.osi_spdu.specs.Writing.{
  body_octets,
  free_len,
  group_octets,
  is_formed,
  is_joined,
  tsdu_octets,
  unit_octets,
  written_code,
}
