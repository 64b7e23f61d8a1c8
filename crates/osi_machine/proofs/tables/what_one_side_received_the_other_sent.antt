-- On one connection: what each side sent, what the other received of it, and what is in flight, over all that may happen.
-- For the law what_is_heard_was_said.
use Rattle.osi_machine.proofs.Vocabulary.{append-nil, list_any, Input, broken as broken_off, Standing, react, after_input, may_abort, State}
use Rattle.osi_machine.proofs.Vocabulary.{Meaning, Call, Granted, allowed, Begins, Message, unit, agree, deny, Transport, not_yet, waiting}
use Rattle.osi_machine.proofs.Vocabulary.{put, replied, one_or_none, units_in, called, taken, opened, refused, said_of, Phase, Answer, ask}
use Rattle.osi_machine.proofs.Vocabulary.{bye, over, linked, closing, gone, Terms, accepts, denies, is_given, Seat, Line, made, said_to}
use Rattle.osi_machine.proofs.Vocabulary.{heard_of, is_parting, ◌≡◌, refl, sym, ◌∙◌, ap, ℕ, suc, Bool, true, false, ◌||◌, List, [], ◌∷◌}
use Rattle.osi_machine.proofs.Vocabulary.{◌++◌, append_assoc, take, drop, Option, Ok, ◌⊎◌, arith, subst, Some, None, Err, list_any-append}
use Rattle.osi_machine.proofs.Vocabulary.{Side, Step, IsHeardAsSaid, AllByRecursion}
use Rattle.osi_session.specs.Phases.{is_ended, is_over, is_wait_transport}
use Rattle.osi_session.specs.Moves.{answered as answered_move}
use Rattle.osi_machine.specs.Tables.{after_call, message_taken, closed, ended_at, without_first, side_of}
use Rattle.osi_machine.proofs.basics.what_holds_in_each_phase.{excluded, implied, by_test}
use Rattle.osi_machine.proofs.whole.a_close_a_break_and_an_end.{take_none}
use Rattle.osi_machine.proofs.tables.every_line_of_a_run.{Words, and_more, all_know, HoldsAt, IsKept}
use Rattle.osi_machine.proofs.basics.what_stands_at_a_reference.{some_same}

-- what is proved of one session
pub record SayLaws : Type 0 where
  pub accepted : (s : State) (c : Call) (g : Granted) → allowed s c ≡ Ok g → may_abort s.phase ≡ true
  pub closed : (s : Standing) (i : Input) → (react s i).closes ≡ true → is_ended (after_input s i).state.phase ≡ true
  pub lost : (s : Standing) → is_ended (after_input s broken_off).state.phase ≡ true

-- a session that is lost has ended
pub lost_ends : (s : Standing) → is_ended (after_input s broken_off).state.phase ≡ true
unfolding react
lost_ends s = refl

abbrev pub says_more : Words → List Meaning → Words
says_more w said = record w { said = w.said ++ said }

abbrev pub hears_more : Words → List Meaning → Words
hears_more w heard = record w { heard = w.heard ++ heard }

-- ---- channels

abbrev pub is_early : Transport → Bool
is_early not_yet = true
is_early waiting = true
is_early tr = false

units_append : (xs ys : List Message) → units_in (xs ++ ys) ≡ units_in xs ++ units_in ys
units_append [] ys = refl
units_append (unit u ∷ xs) ys = ap (λ (us : List Meaning). u ∷ us) (units_append xs ys)
units_append (x ∷ xs) ys = units_append xs ys

-- messages that are no units
pub put_no_units : (b : Bool) (ms ch : List Message) → units_in ms ≡ [] → units_in (put b ms ch) ≡ units_in ch
put_no_units b ms ch e = grind (arith, units_append, append-nil)

units_taken : (k : ℕ) (ch : List Message) → units_in (take k ch) ++ units_in (drop k ch) ≡ units_in ch
units_taken (suc k) (unit u ∷ ch) = ap (λ (us : List Meaning). u ∷ us) (units_taken k ch)
units_taken (suc k) (x ∷ ch) = units_taken k ch
units_taken _ _ = refl

pub no_units_taken : (k : ℕ) (ch : List Message) → units_in ch ≡ [] → units_in (take k ch) ≡ []
no_units_taken (suc k) (unit u ∷ ch) e = absurd (cc)
no_units_taken (suc k) (x ∷ ch) e = no_units_taken k ch e
no_units_taken _ _ e = refl

abbrev pub is_agree : Message → Bool
is_agree agree = true
is_agree m = false

-- ---- what was received, followed by what is in flight and what was lost, is what was sent; nothing was lost unless
-- the sender has stopped

pub record Carried (stopped : Bool) (ch : List Message) (said heard : List Meaning) : Type 0 where
  pub lost : List Meaning
  pub splits : heard ++ (units_in ch ++ lost) ≡ said
  pub whole : (lost ≡ []) ⊎ (stopped ≡ true)

-- no unit is put
pub same_units : (a b : Bool) (xs ys : List Message) (said heard : List Meaning) → units_in ys ≡ units_in xs → (a ≡ true → b ≡ true)
    → Carried a xs said heard → Carried b ys said heard
same_units a b xs ys said heard e f h = search arith

-- what followed after this many messages is lost
pub fewer_units : (a b : Bool) (k : ℕ) (ch : List Message) (said heard : List Meaning) → b ≡ true → Carried a ch said heard
    → Carried b (take k ch) said heard
fewer_units a b k ch said heard stop h = grind (arith, append_assoc (units_in (take k ch)) (units_in (drop k ch)) h.lost, units_taken k ch)

-- a unit is taken from the front
pub first_heard : (a : Bool) (u : Meaning) (ms : List Message) (said heard : List Meaning) → Carried a (unit u ∷ ms) said heard
    → Carried a ms said (heard ++ u ∷ [])
first_heard a u ms said heard h = grind (arith, append_assoc)

-- a unit is sent: after a break it is lost, otherwise it is put into the channel
one_said : (b parts : Bool) (ch : List Message) (said heard : List Meaning) (u : Meaning) → (parts ≡ true → ⊥)
    → Carried (b || parts) ch said heard
    → Carried (b || parts) (put b (unit u ∷ []) ch) (said ++ u ∷ []) heard
one_said b parts ch said heard u n h = search (arith, append_assoc, append-nil, units_append)

pub reply_said : (b parts : Bool) (ch : List Message) (said heard : List Meaning) (r : Option Meaning) → (parts ≡ true → ⊥)
    → Carried (b || parts) ch said heard
    → Carried (b || parts) (put b (replied r) ch) (said ++ one_or_none r) heard
reply_said b parts ch said heard r n h = search (arith, one_said, append-nil, same_units, put_no_units)

pub begins_more : (said heard more : List Meaning) → Begins heard said → Begins heard (said ++ more)
begins_more said heard more h = (h.0 ++ more, sym (append_assoc heard h.0 more) ∙ ap (λ (us : List Meaning). us ++ more) h.1)

-- ---- phases

over_mute : (p : Phase) → is_over p ≡ true → may_abort p ≡ false
over_mute p e = excluded is_over may_abort refl p e

ended_over : (p : Phase) → is_ended p ≡ true → is_over p ≡ true
ended_over p e = implied is_ended is_over refl p e

-- ---- a side beside the other

-- While a side has no transport connection, its session awaits it, and no unit is in flight from it; once the transport
-- connection closes, the session is over. While the other side has none, this side's user can call nothing and no unit
-- is in flight from it; and not both sides await it.
pub record Fits (own peer : Seat) : Type 0 where
  pub waits : own.transport ≡ waiting → is_wait_transport own.session.state.phase ≡ true
  pub over_now : is_parting own.transport ≡ true → is_over own.session.state.phase ≡ true
  pub early : is_early own.transport ≡ true → units_in own.channel ≡ []
  pub unasked : own.transport ≡ not_yet → list_any is_agree own.channel ≡ false
  pub mute : is_early peer.transport ≡ true → may_abort own.session.state.phase ≡ false
  pub unsaid : is_early peer.transport ≡ true → units_in own.channel ≡ []
  pub first : own.transport ≡ waiting → peer.transport ≡ waiting → ⊥

-- what one side sent, and what the other received of it
pub record Way (broken : Bool) (own peer : Seat) (said heard : List Meaning) : Type 0 where
  pub begins : Begins heard said
  pub carried : is_parting peer.transport ≡ false → Carried (broken || is_parting own.transport) own.channel said heard

pub record Told (broken : Bool) (l : Line) (own peer : Words) : Type 0 where
  pub own_fits : Fits l.own l.peer
  pub peer_fits : Fits l.peer l.own
  pub out : Way broken l.own l.peer own.said peer.heard
  pub back : Way broken l.peer l.own peer.said own.heard

-- ---- how a side may change, with what is then in flight from it

-- seen from the side that stays: the other's transport connection is there, or closes
past : (own peer peer' : Seat) → is_early peer'.transport ≡ false → Fits own peer → Fits own peer'
past own peer peer' e h = grind (arith, is_early)

-- its transport connection is there, or closes, and its session is another
opened_fits : (own' peer : Seat) → is_early own'.transport ≡ false
    → (is_parting own'.transport ≡ true → is_over own'.session.state.phase ≡ true)
    → (is_early peer.transport ≡ true → may_abort own'.session.state.phase ≡ false)
    → (is_early peer.transport ≡ true → units_in own'.channel ≡ []) → Fits own' peer
opened_fits own' peer e o m u = grind (arith, is_early)

-- a side leaves: its session is over, and units in flight from it may be lost
parts_told : (b : Bool) (l : Line) (own' : Seat) (x y : Words) → is_parting own'.transport ≡ true → is_early own'.transport ≡ false
    → is_over own'.session.state.phase ≡ true
    → (is_early l.peer.transport ≡ true → units_in own'.channel ≡ [])
    → (is_parting l.peer.transport ≡ false → Carried true own'.channel x.said y.heard)
    → Told b l x y → Told b (record l { own = own' }) x y
parts_told b l own' x y p e o u c h = search (arith, opened_fits, over_mute, past, same_units)

-- the rest of its channel is lost
cuts_told : (b : Bool) (l : Line) (own' : Seat) (keep : ℕ) (x y : Words) → is_parting own'.transport ≡ true
    → is_early own'.transport ≡ false → is_over own'.session.state.phase ≡ true
    → units_in own'.channel ≡ units_in (take keep l.own.channel) → Told b l x y → Told b (record l { own = own' }) x y
cuts_told b l own' keep x y p e o u h = parts_told b l own' x y p e o
    (λ k. u ∙ no_units_taken keep l.own.channel (h.own_fits.unsaid k))
    (λ k. same_units true true (take keep l.own.channel) own'.channel x.said y.heard u (λ s. refl)
    (fewer_units (b || is_parting l.own.transport) true keep l.own.channel x.said y.heard refl (h.out.carried k)))
    h

-- nothing of its channel is lost
goes_told : (b : Bool) (l : Line) (own' : Seat) (x y : Words) → is_parting own'.transport ≡ true → is_early own'.transport ≡ false
    → is_over own'.session.state.phase ≡ true
    → units_in own'.channel ≡ units_in l.own.channel → Told b l x y → Told b (record l { own = own' }) x y
goes_told b l own' x y p e o u h = search (arith, parts_told, same_units)

-- a side that has a transport connection, or gets one, sends one unit or none; the other side has one too, or is closing
says_told : (b : Bool) (l : Line) (s : Standing) (r : Option Meaning) (x y : Words) → is_parting l.own.transport ≡ false
    → is_early l.peer.transport ≡ false → Told b l x y
    → Told b (record l { own = record { transport = linked; session = s; channel = put b (replied r) l.own.channel } })
    (says_more x (one_or_none r)) y
says_told b l s r x y p e h = search (arith, opened_fits, past, begins_more, reply_said)

-- ---- lists with nothing in them

no_words : (b : Bool) (l : Line) (x y : Words) → Told b l x y → Told b l (and_more x [] []) y
no_words b l x y h = search (arith, append-nil)

-- ---- a call

-- if a call is accepted the transport connection is there at both sides, or closes at the other
linked_there : (tr : Transport) (p : Phase) → is_given tr ≡ true → may_abort p ≡ true → (tr ≡ waiting → is_wait_transport p ≡ true)
    → (is_parting tr ≡ true → is_over p ≡ true) → tr ≡ linked
linked_there tr p g m w o = grind (arith, over_mute)

not_early : (e : Bool) (p : Phase) → (e ≡ true → may_abort p ≡ false) → may_abort p ≡ true → e ≡ false
not_early e p f m = grind arith

pub call_told : SayLaws → (b : Bool) (c : Call) (l : Line) (x y : Words) → is_given l.own.transport ≡ true → Told b l x y
    → Told b (after_call b c l) (and_more x (one_or_none (react l.own.session (called c)).reply) []) y
unfolding react
call_told laws b c l x y g h = by (allowed l.own.session.state c) refl
  where
    by : (a : Answer) → allowed l.own.session.state c ≡ a
        → Told b (made b (answered_move l.own.session a) l) (and_more x (one_or_none (answered_move l.own.session a).reply) []) y
    by (Err f) e = no_words b _ x y (grind (arith, append-nil))
    by (Ok step) e =
        let m = laws.accepted l.own.session.state c step e in
        let t = linked_there l.own.transport l.own.session.state.phase g m h.own_fits.waits h.own_fits.over_now in
        let d = not_early (is_early l.peer.transport) l.own.session.state.phase h.own_fits.mute m in
        subst (λ (tr : Transport). Told b (record l {
          own = record {
            transport = tr;
            session = record l.own.session { state = step.next };
            channel = put b (unit step.sent ∷ []) l.own.channel;
          };
        }) (and_more x (step.sent ∷ []) []) y) (sym t)
        (says_told b l (record l.own.session { state = step.next }) (Some step.sent) (hears_more x []) y (ap is_parting t) d
        (grind (arith, append-nil)))

-- ---- a close, the end of a side, and a break

pub close_told : (b : Bool) (keep : ℕ) (l : Line) (x y : Words) → is_ended l.own.session.state.phase ≡ true → Told b l x y
    → Told b (closed b keep l) x y
close_told b keep l x y o h =
    search (arith, cuts_told, ended_over l.own.session.state.phase o, put_no_units b (bye 128 ∷ []) (take keep l.own.channel) refl)

end_told : SayLaws → (b : Bool) (keep : ℕ) (l : Line) (x y : Words) → Told b l x y → Told b (ended_at keep l).line x y
end_told laws b keep l x y h =
    cuts_told b l (ended_at keep l).line.own keep x y refl refl
    (ended_over (react l.own.session broken_off).next.state.phase (laws.lost l.own.session)) refl h

cut_fits : (keep : ℕ) (own peer : Seat) (ch : List Message) → Fits own peer
    → Fits (record own { channel = take keep own.channel }) (record peer { channel = ch })
cut_fits keep own peer ch h = grind (arith, no_units_taken, take_none)

cut_way : (b : Bool) (keep : ℕ) (own peer : Seat) (ch : List Message) (said heard : List Meaning) → Way b own peer said heard
    → Way true (record own { channel = take keep own.channel }) (record peer { channel = ch }) said heard
cut_way b keep own peer ch said heard h = search (arith, fewer_units)

-- ---- a message is taken

denied_over : (s : Standing) (reason : ℕ) → is_wait_transport s.state.phase ≡ true
    → (is_over (react s (refused reason)).next.state.phase ≡ true) × ((react s (refused reason)).reply ≡ None)
unfolding react
denied_over s reason w = by_test (is_wait_transport s.state.phase) (λ q. rw q (refl, refl)) (λ q. let e = rw q at w in absurd (cc))

lost_none : (s : Standing) → (react s broken_off).reply ≡ None
unfolding react
lost_none s = refl

-- a session that sends nothing puts nothing
nothing_replied : (b : Bool) (r : Option Meaning) (ch : List Message) → r ≡ None → units_in (put b (replied r) ch) ≡ units_in ch
nothing_replied b r ch e = put_no_units b (replied r) ch (ap (λ (o : Option Meaning). units_in (replied o)) e)

module _ (laws : SayLaws) (b : Bool) (keep : ℕ) (l : Line) (xs : List Message) (x y : Words) (h : Told b l x y) where
  -- the message is a unit, and is received
  heard_first : (u : Meaning) → l.peer.channel ≡ unit u ∷ xs → is_parting l.own.transport ≡ false
      → Told b (without_first l xs) (hears_more x (u ∷ [])) y
  heard_first u e p =
      let c = first_heard (b || is_parting l.peer.transport) u xs y.said x.heard
      (subst (λ (ms : List Message). Carried (b || is_parting l.peer.transport) ms y.said x.heard) e (h.back.carried p)) in
      search arith

  pub message_told : (terms : Terms) (tr : Transport) (m : Message) → l.own.transport ≡ tr → l.peer.channel ≡ m ∷ xs
      → Told b (message_taken b terms keep tr (without_first l xs) m).line (and_more x (said_to tr l.own.session m) (heard_of tr m)) y
  message_told (accepts class) not_yet ask t e = no_words b _ x y (grind (arith, opened_fits, put_no_units, past, same_units))
  message_told (denies reason) not_yet ask t e = no_words b _ x y (grind (arith, put_no_units, list_any-append, same_units))
  message_told terms not_yet (unit u) t e = grind arith
  message_told terms waiting (unit u) t e = grind arith
  message_told terms waiting agree t e = says_told b (without_first l xs) _ (react l.own.session opened).reply (hears_more x []) y
      (ap is_parting t) (grind arith) (grind (arith, append-nil))
  message_told terms waiting (deny reason) t e =
      let d = denied_over l.own.session reason (h.own_fits.waits t) in
      no_words b _ x y (goes_told b (without_first l xs) _ x y refl refl d.0
      (nothing_replied b (react l.own.session (refused reason)).reply l.own.channel d.1) (grind (arith, same_units)))
  message_told terms linked (unit u) t e =
      says_told b (without_first l xs) _ (react l.own.session (taken (said_of u))).reply (hears_more x (u ∷ [])) y (ap is_parting t)
      (grind arith) (heard_first u e (ap is_parting t))
  message_told terms linked (bye reason) t e = no_words b _ x y (cuts_told b (without_first l xs) _ keep x y refl refl
      (ended_over (react l.own.session broken_off).next.state.phase (laws.lost l.own.session))
      (grind (arith, put_no_units, react, nothing_replied, lost_none)) (grind (arith, same_units)))
  message_told terms closing (bye reason) t e = no_words b _ x y (grind (arith, goes_told))
  message_told terms closing over t e = no_words b _ x y (grind (arith, goes_told))
  message_told terms gone (bye reason) t e = no_words b _ x y (grind (arith, goes_told, put_no_units))
  message_told terms tr m t e = no_words b _ x y (grind (arith, same_units))

-- ---- what each move keeps

told_kept : SayLaws → IsKept Told (λ s. Unit {0})
told_kept laws = record {
  new = λ b o small short. search arith;
  turns = λ b l x y h. record { own_fits = h.peer_fits; peer_fits = h.own_fits; out = h.back; back = h.out };
  call = λ b side r c l x y small given h. call_told laws b c l x y given h;
  take = λ b terms keep l m xs x y e h. message_told laws b keep l xs x y h terms l.own.transport m refl e;
  close = λ b terms keep to_keep tr l m x y c h. close_told b to_keep (message_taken b terms keep tr l m).line x y (grind arith) h;
  end = λ b keep l x y h. by_test (is_given l.own.transport) (λ e. rw e (end_told laws b keep l x y h)) (λ e. rw e h);
  cut = λ b left right l x y h. search (cut_fits, cut_way);
}

any_steps : (steps : List Step) → AllByRecursion (λ s. Unit {0}) steps
any_steps [] = tt
any_steps (s ∷ steps) = (tt, any_steps steps)

-- ---- one side at a time

line_of_side : (side : Side) (b : Bool) (x y : Words) (o : Option Line) (l : Line) → HoldsAt Told side b x y o → side_of side o ≡ Some l
    → Told b l x y
line_of_side side b x y o l h e = grind (arith, some_same)

heard_begins : (side : Side) (b : Bool) (x y : Words) (o : Option Line) → HoldsAt Told side b x y o → Begins x.heard y.said
heard_begins side b x y o h = search (arith, append-nil)

then_under_way : (a : Bool) (ch : List Message) (said heard : List Meaning) → Carried a ch said heard → Begins (heard ++ units_in ch) said
then_under_way a ch said heard h = (h.lost, append_assoc heard (units_in ch) h.lost ∙ h.splits)

or_false : (a b : Bool) → a ≡ false → b ≡ false → (a || b) ≡ true → ⊥
or_false a b e f g = grind arith

and_all : (a : Bool) (ch : List Message) (said heard : List Meaning) → (a ≡ true → ⊥) → Carried a ch said heard
    → heard ++ units_in ch ≡ said
and_all a ch said heard n h = search (arith, append-nil)

pub heard_was_said : SayLaws → (side : Side) (r : ℕ) (terms : Terms) (steps : List Step) → IsHeardAsSaid side r terms steps
heard_was_said laws side r terms steps =
    let h = all_know Told (λ s. Unit {0}) (told_kept laws) side r terms steps (any_steps steps) in
    search (arith, heard_begins, then_under_way, line_of_side, and_all, or_false)
