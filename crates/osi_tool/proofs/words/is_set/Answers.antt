use Rattle.std.proofs.Common.{◌∙◌, ap, sym, codes, false, Option, List, ℕ, option_map, Bool}
use Rattle.std.specs.Option.{option_map_or}
use Rattle.std.specs.Str.{bytes_eq}
use Rattle.clap.specs.Words.{found_of}
use Rattle.osi_tool.proofs.a_subcommand_is_met_by_its_rows.{set_by_value}
use Rattle.osi_tool.proofs.words.is_set.Goals as goal

abbrev is_true : Option (List ℕ) → Bool
is_true value = option_map_or (λ text. bytes_eq text (codes "true")) value false

pub returns-in-None : goal.returns-in-None
returns-in-None c = ap is_true (ap (option_map (λ s. s.now)) (sym c.in-None.is) ∙ c.get_str.ensures) ∙ sym
    (set_by_value (found_of c.args.matches.now) c.args.name.now)

pub returns-in-Some : goal.returns-in-Some
returns-in-Some c =
    c.eq.ensures ∙ ap is_true (ap (option_map (λ s. s.now)) (sym c.in-Some.is) ∙ c.get_str.ensures) ∙ sym
    (set_by_value (found_of c.args.matches.now) c.args.name.now)
