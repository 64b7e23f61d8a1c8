-- The units of a walk to a restart have these words: for the functions of `restarts` that make them.
use Rattle.std.proofs.Common.{arith}
use Rattle.osi_side.proofs.Vocabulary.{◌≡◌, ◌∙◌, refl, ap, ℕ, ◌≤◌, List, [], Bor, Resynchronize, Serial, TokenSetting, Answerer, Contents}
use Rattle.osi_side.proofs.Vocabulary.{made, abort_params, resynchronize_params, AB, RS, meaning, says, unit_with, HaveDigits}
use Rattle.osi_side.proofs.Vocabulary.{meaning_again, abort_known, restart_known, restart_at, an_abort}
use Rattle.osi_spdu.specs.declared.fields.ResyncType.TheVariants.{Restart}
use Rattle.osi_spdu.specs.declared.kinds.Kind.TheVariants.{Abort}
use Rattle.osi_spdu.specs.Known.{Known}
use Rattle.osi_message.specs.Reading.{word}
use Rattle.osi_message.specs.Written.{unit_of}

-- a unit of these kinds is no part of a Data
says_abort : (known : Known) → word (unit_with Abort known) ≡ says (meaning (unit_with Abort known))
unfolding word
says_abort known = refl

says_restart : (known : Known) → word (unit_with Resynchronize known) ≡ says (meaning (unit_with Resynchronize known))
unfolding word
says_restart known = refl

made_abort : (b : Bor (List ℕ)) → b.now ≡ [] → made Abort (abort_params 1 b) ≡ unit_of (AB 1 [])
unfolding unit_of
made_abort b e = ap (unit_with Abort) (abort_known 1 b) ∙ ap (λ (octets : List ℕ). unit_of (AB 1 octets)) e

pub abort_word : HaveDigits → (u : Contents) (b : Bor (List ℕ)) → u ≡ made Abort (abort_params 1 b) → b.now ≡ [] → word u ≡ an_abort
abort_word digits u b e n = grind (arith, says_abort, made_abort, meaning_again)

abbrev all_away : TokenSetting
all_away = record { data_token = Answerer; minor = Answerer; major = Answerer; release = Answerer }

made_restart : (n : Serial) (b : Bor (List ℕ)) → b.now ≡ []
    → made Resynchronize (resynchronize_params all_away Restart n b) ≡ unit_of (RS Restart n.number all_away [])
unfolding unit_of
made_restart n b e = grind (arith, restart_known)

pub restart_word : HaveDigits → (u : Contents) (number : ℕ) (n : Serial) (b : Bor (List ℕ))
    → u ≡ made Resynchronize (resynchronize_params all_away Restart n b) → b.now ≡ [] → n.number ≡ number → number ≤ 999999
    → word u ≡ restart_at number
restart_word digits u number n b e d s l = grind (arith, says_restart, made_restart, meaning_again)
