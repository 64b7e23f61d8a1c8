-- What the proofs of this crate take from the library, from the crates below and from its own definitions.
pub use Rattle.std.proofs.Common.{Bool, IfSome, List, Ok, Option, Result, Some, [], ap, arith, cond, drop, eqb, false, if◌then◌else◌}
pub use Rattle.std.proofs.Common.{length, map, min, not, option_map, refl, subst, suc, sym, take, true, unwrap_or, zero, ℕ, ◌%◌, ◌*◌, ◌++◌}
pub use Rattle.std.proofs.Common.{◌+◌, ◌-◌, ◌/◌, ◌<◌, ◌==◌, ◌∙◌, ◌∷◌, ◌≡◌, ◌≤◌}
pub use Rattle.std.proofs.lemmas.Bool.{and_parts, le-leb, leb-false, leb-true, lt-leb, ltb-true, ne_eqb}
pub use Rattle.std.proofs.lemmas.Grind.{common_steps}
pub use Rattle.std.proofs.lemmas.List.{append-nil, drop-append-le, drop_min, length-append, length-drop, length-take, take-append-drop}
pub use Rattle.std.proofs.lemmas.Nat.{and_assoc, and_le_r}
pub use Rattle.std.specs.Borrow.{Bor}
pub use Rattle.std.specs.Int.RustNames.{bit_and}
pub use Rattle.std.specs.List.{AllByRecursion, flat_map, list_all}
pub use Rattle.osi_unit.proofs.lists_of_octets_stay_octets.{octets_append, octets_cons, octets_drop, octets_nil, octets_take}
pub use Rattle.osi_unit.specs.Octets.{IsOctets}
pub use Rattle.osi_spdu.proofs.basics.the_steps_of_reading.{same_true}
pub use Rattle.osi_spdu.specs.Codes.{is_same}
unfoldable pub use Rattle.osi_spdu.specs.Codes.{is_group, number_of}
pub use Rattle.osi_spdu.specs.Fields.{bits_of, resync_octet, setting_octets, size_octets, two_octets, unit_bits, wish_number}
unfoldable pub use Rattle.osi_spdu.specs.Kinds.{category_of, codes_of, may_stand, members_of, required_of, si_of}
pub use Rattle.osi_spdu.specs.Known.{Contents, Known, Units, nothing, put, some_octets}
pub use Rattle.osi_spdu.specs.Params.{no_params}
unfoldable pub use Rattle.osi_spdu.specs.Params.{cells_of, known_of, slots_of}
pub use Rattle.osi_spdu.specs.Reading.{tsdu_at}
pub use Rattle.osi_spdu.specs.Sizes.{written_sizes}
pub use Rattle.osi_spdu.specs.Spelling.{HasInformation, MayFollow}
unfoldable pub use Rattle.osi_spdu.specs.Spelling.{StandTogether}
pub use Rattle.osi_spdu.specs.Units.{said_by}
pub use Rattle.osi_spdu.specs.Values.{decimal, is_digit, is_size, numeral, six_digits}
unfoldable pub use Rattle.osi_spdu.specs.Values.{canonical, decimal_from, digits_of, significant}
pub use Rattle.osi_spdu.specs.Writing.{IsCanonical, IsFormedTsdu, IsFormedUnit, TsduFits, UnitFits, member_octets, members_octets}
pub use Rattle.osi_spdu.specs.Writing.{parameter_octets}
unfoldable pub use Rattle.osi_spdu.specs.Writing.{body_octets, free_len, group_octets, is_formed, tsdu_octets, unit_octets, written_code}
pub use Rattle.osi_spdu.specs.declared.codes.Code.{Code}
pub use Rattle.osi_spdu.specs.declared.codes.Code.TheVariants.{CalledSelector, CallingSelector, ConnectAcceptItem, Enclosure}
pub use Rattle.osi_spdu.specs.declared.codes.Code.TheVariants.{ExtendedUserData, Number, ProtocolOptions, Reason, SyncType, TokenItem}
pub use Rattle.osi_spdu.specs.declared.codes.Code.TheVariants.{TransportDisconnect, UserData, Version}
pub use Rattle.osi_spdu.specs.declared.faults.SpduFault.{SpduFault}
pub use Rattle.osi_spdu.specs.declared.fields.ResyncType.{ResyncType}
pub use Rattle.osi_spdu.specs.declared.fields.SyncType.TheVariants.{Open}
pub use Rattle.osi_spdu.specs.declared.fields.TsduMaximumSize.{TsduMaximumSize}
pub use Rattle.osi_spdu.specs.declared.kinds.Category.{Category}
pub use Rattle.osi_spdu.specs.declared.kinds.Category.TheVariants.{Two}
pub use Rattle.osi_spdu.specs.declared.kinds.Kind.{Kind}
pub use Rattle.osi_spdu.specs.declared.kinds.Kind.TheVariants.{Abort, AbortAccept, Accept, Connect, DataTransfer, Disconnect, Finish}
pub use Rattle.osi_spdu.specs.declared.kinds.Kind.TheVariants.{GiveTokens, MinorSyncAck, MinorSyncPoint, NotFinished, Resynchronize}
pub use Rattle.osi_spdu.specs.declared.requirements.Requirements.{Requirements}
pub use Rattle.osi_spdu.specs.declared.selectors.Selector.{Selector}
pub use Rattle.osi_spdu.specs.declared.serials.Serial.{Serial}
pub use Rattle.osi_spdu.specs.declared.settings.TokenSetting.{TokenSetting}
pub use Rattle.osi_spdu.specs.declared.settings.Wish.{Wish}
pub use Rattle.osi_spdu.specs.declared.tokens.TokenSet.{TokenSet}
pub use Rattle.osi_message.specs.Brief.{is_brief}
pub use Rattle.osi_message.specs.InOctets.{IsInOctets}
pub use Rattle.osi_message.specs.Meanings.{AA, AB, AC, CN, DN, DT, FN, GT, MAA, MAP, MIA, MIP, Meaning, NF, PT, RA, RF, RS, meant_by}
pub use Rattle.osi_message.specs.Numbered.{AreNumberedWords, IsNumbered, IsSmall}
pub use Rattle.osi_message.specs.Parting.{AreFull, AreLater, AreParts, behind_no_token, in_one, is_parted, is_whole, joined, later_parts}
pub use Rattle.osi_message.specs.Parting.{parts_of, pieces, tsdus_of}
unfoldable pub use Rattle.osi_message.specs.Parting.{words_sent}
pub use Rattle.osi_message.specs.Plain.{data_octets, has_zero_in_front, plain_octets, plain_said, plain_word, point_octets}
pub use Rattle.osi_message.specs.Reading.{alone, behind, first_in, number_in, resync_named, said_by_units, said_if_read, serial_in}
pub use Rattle.osi_message.specs.Reading.{setting_named, sizes_in, two_in}
unfoldable pub use Rattle.osi_message.specs.Reading.{meaning, said_at, word}
pub use Rattle.osi_message.specs.Sendable.{IsAddress, IsAddressed, IsSendable, is_of_version_2, words_of}
pub use Rattle.osi_message.specs.Tokens.{named, no_token}
unfoldable pub use Rattle.osi_message.specs.Tokens.{token_octet}
pub use Rattle.osi_message.specs.Words.{Word, Words, as_message, enclosure_of, part, part_head, part_octets, says, word_octets}
pub use Rattle.osi_message.specs.Written.{alone_units, behind_tokens, connect_unit, numbered, put_some, sync_type, terms, unit_with}
pub use Rattle.osi_message.specs.Written.{with_data, written}
unfoldable pub use Rattle.osi_message.specs.Written.{is_second, spelled, unit_of, user_data_of}
pub use Rattle.osi_message.specs.declared.messages.Message.{Message}
pub use Rattle.osi_message.specs.declared.places.Place.{Place}
pub use Rattle.osi_message.specs.declared.places.Place.TheVariants.{First, Last, Middle}
pub use Rattle.osi_message.specs.declared.plain.PlainUnit.{PlainUnit}
pub use Rattle.osi_message.specs.declared.tokens.Tokens.{Tokens}
