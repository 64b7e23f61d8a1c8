-- What the proofs of this crate take from the library, from the crates below and from its own definitions.
pub use Rattle.std.proofs.Common.{Bool, IfNone, IfOk, IfSome, List, None, Ok, Option, Result, Some, [], ap, arith, drop, false, get_or}
pub use Rattle.std.proofs.Common.{if◌then◌else◌, is_some, leb, length, length-append, length-drop, map, min, nat_lt, option_map}
pub use Rattle.std.proofs.Common.{option_to_list, refl, subst, suc, sym, take, true, zero, ℕ, ◌%◌, ◌*◌, ◌++◌, ◌+◌, ◌-◌, ◌<◌, ◌^◌, ◌∙◌, ◌∷◌}
pub use Rattle.std.proofs.Common.{◌≡◌, ◌≤◌}
pub use Rattle.std.proofs.Math.Nat.{add-div_right, div-eq_of_lt, pow-le-pow_right}
pub use Rattle.std.proofs.lemmas.Bool.{le-ltb, leb-true, lt-leb, lt-ltb, ltb-false, ltb-true}
pub use Rattle.std.proofs.lemmas.Grind.{flat_map-append}
pub use Rattle.std.proofs.lemmas.List.{append_assoc, append_cancel_left, length-take-le, map-append, take-append-drop, take_all}
pub use Rattle.std.proofs.lemmas.List.Sums.{sum_by-cons}
pub use Rattle.std.specs.List.{AllByRecursion, flat_map}
pub use Rattle.osi_unit.proofs.lists_of_octets_stay_octets.{octets_drop, octets_take}
pub use Rattle.osi_unit.specs.Octets.{IsOctets}
pub use Rattle.osi_tpdu.specs.Value.{Value, acknowledge, data2}
pub use Rattle.osi_tpdu.specs.Writing.{Fits, written}
pub use Rattle.osi_tpdu.specs.declared.limits.SizeCode.{SizeCode}
pub use Rattle.osi_class.specs.AnyLink.{any_standing}
pub use Rattle.osi_class.specs.Between.{AreOfClass, HasWholeTsdus, IsFresh, IsQuiet, IsShortTsdu, LinkPair, OnlySends, Says, TakesOldest}
pub use Rattle.osi_class.specs.Between.{Turn, Turns, TurnsAlong, at_left, at_right, awaiting_pair, given_by, left_in, opened_pair, opposite}
pub use Rattle.osi_class.specs.Between.{parts_under_way, right_out, swapped, under_way, under_way_before}
pub use Rattle.osi_class.specs.Directions.{Agree, AgreeInClass, AgreeZero, HaveFlows, TurnSteps, ack_numbers, direction, unit_numbers}
pub use Rattle.osi_class.specs.Ends.{Ends, fresh_ends, unit_size}
pub use Rattle.osi_class.specs.Flow.{Flow, Receiver, Sender, ack_number, acknowledged, after_acked, after_sent, fresh_receiver}
pub use Rattle.osi_class.specs.Flow.{fresh_sender, is_awaited, steps_before}
pub use Rattle.osi_class.specs.Giving.{AllGoAtOnce, Drained, GivesPart, GivesSlot, GoesAtOnce, GoesWhole, MayGoAll, all_given, drained_by}
pub use Rattle.osi_class.specs.Giving.{drained_within, given_one_by_one, header_octets, left_to_give, most_by, most_given, octets_in}
pub use Rattle.osi_class.specs.Giving.{octets_in_parts, octets_of, one_by_one, parts_needed, units_needed, with_rest}
unfoldable pub use Rattle.osi_class.specs.Giving.{drained}
pub use Rattle.osi_class.specs.Joining.{Joining, joined, joining, with_part}
pub use Rattle.osi_class.specs.Limits.{longest_tsdu}
pub use Rattle.osi_class.specs.Link.{Given, Hands, Standing, Two, ack, fresh_two, given_in, given_part, is_of_two, next, next_by, part0}
pub use Rattle.osi_class.specs.Link.{part2, sent_flow, taken, taken_by, taken_flow, two_standing, unit_of, with_handed, with_joined}
pub use Rattle.osi_class.specs.Link.{with_sender, with_tsdu, with_tsdus, zero_standing}
pub use Rattle.osi_class.specs.Owed.{CreditStep, CreditSteps, Direction, InStep, StepsAlong, known_after, numbers, opened, owed, restored}
pub use Rattle.osi_class.specs.Owed.{take_ack, take_unit, write_ack, write_unit}
pub use Rattle.osi_class.specs.Queues.{PopsFirst}
pub use Rattle.osi_class.specs.Runs.{Move, Moves, MovesAlong, give_out, given_parts, hand_in, hand_out, part_in, part_out, parts_in}
pub use Rattle.osi_class.specs.Runs.{parts_out, take_in, tsdu_in, tsdu_out, tsdus_in, tsdus_out, unit_parts}
pub use Rattle.osi_class.specs.Sound.{HasGivenInRange, IsSound, IsSoundFlow, TakesInRange}
pub use Rattle.osi_class.specs.Tsdus.{MakeTheSame, Part, give, octets_of_tsdus, tsdus, tsdus_after, uncut}
pub use Rattle.osi_class.specs.declared.either.AnyLink.{AnyLink}
pub use Rattle.osi_class.specs.declared.faults.LinkFault.{LinkFault}
pub use Rattle.osi_class.specs.declared.units.Slot.TheVariants.{Data0, Data2}
