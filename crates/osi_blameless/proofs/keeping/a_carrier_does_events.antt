-- What is done at the carrier of an end, one thing after the other, is events of a whole end that reports nothing and hands nothing over.
-- For what a turn of an end does.
use Rattle.osi_blameless.proofs.Vocabulary.{arith, ◌≡◌, ◌∙◌, not, ℕ, Bool, true, false, if◌then◌else◌, List, [], ◌∷◌, ◌++◌, refl, sym, ap}
use Rattle.osi_blameless.proofs.Vocabulary.{subst, Option, Some, None, is_some, append_assoc, append-nil, Value, Fits, Standing, closed_on}
use Rattle.osi_blameless.proofs.Vocabulary.{closed_with, ended_by, link_of, may_connect, open_link, put_closing, put_together, sent_all}
use Rattle.osi_blameless.proofs.Vocabulary.{value_at, UserCall, breaks, closes, connects, sends_all, user_does, ends, EndReason, OpenError}
use Rattle.osi_blameless.proofs.Vocabulary.{Ended, NotCaller, put_by, put_for, Event, HappenAlong, Happens, MayCall, Whole, arrives, calls}
use Rattle.osi_blameless.proofs.Vocabulary.{react_over, outcome_over, unlinked_put, Makes, react}
use Rattle.osi_carrier.specs.State.{Outcome, State}
use Rattle.osi_rules.specs.declared.directions.Direction.{Direction}
use Rattle.osi_blameless.specs.ends.Doing as doing
use Rattle.osi_blameless.proofs.keeping.what_waits_changes_nothing.{IsApart, bare, call_apart, done_alike, put_alike, together_alike}
use Rattle.osi_blameless.proofs.keeping.what_waits_changes_nothing.{unit_apart}
use Rattle.osi_blameless.proofs.transport.what_each_thing_keeps_all_of_them_keep.{along_join}
pub use Rattle.osi_blameless.proofs.transport.small_facts_that_many_lemmas_use.{none_of}

-- ---- a carrier that has ended does nothing

over_not : {A : Type 0} (s : State) → is_some s.ended ≡ true → s.ended ≡ None → A
over_not s over lasts = let no : true ≡ false = sym over ∙ ap is_some lasts in absurd (cc)

no_link : (r : ℕ) (c : State) → is_some c.ended ≡ true → open_link r c ≡ None
no_link r c over = ap (λ (b : Bool). if b then None else link_of (value_at r c.live)) over

idle_all : (r : ℕ) (tsdus : List (List ℕ)) (c : State) → is_some c.ended ≡ true → sent_all r tsdus c ≡ c
idle_all r [] c over = refl
idle_all r (tsdu ∷ tsdus) c over = ap (sent_all r tsdus) (grind (arith, no_link)) ∙ idle_all r tsdus c over

idle_closed : (r reason : ℕ) (c : State) → is_some c.ended ≡ true → closed_with r reason c ≡ c
idle_closed r reason c over = ap (λ (o : Option (ℕ × Standing)). closed_on r reason o c) (no_link r c over)

none_closing : (r reason : ℕ) (c : State) → is_some c.ended ≡ true → put_closing r reason (open_link r c) c.class ≡ []
none_closing r reason c over = ap (λ (o : Option (ℕ × Standing)). put_closing r reason o c.class) (no_link r c over)

ended_so : (reason : EndReason) (c : State) → is_some c.ended ≡ false → ended_by reason c ≡ ends reason c
ended_so reason c lasts = ap (λ (b : Bool). if b then c else ends reason c) lasts

may_last : (a b : Bool) (o : Option OpenError) → (if not a then Some NotCaller else (if b then Some Ended else o)) ≡ None → b ≡ false
may_last a b o h = grind arith

-- ---- what has come of it

-- the whole end is like the carrier: it has ended too, or it is the same apart from what waits
pub record IsLike (s c : State) : Type 0 where
  pub over : is_some c.ended ≡ is_some s.ended
  pub lasts : s.ended ≡ None → bare s ≡ bare c

-- Events of the whole end have made of it one like this carrier, and put these units; as long as it lasts, those are still to come.
pub record HasCome (d : Direction) (w : Whole) (put later : List Value) (c : State) : Type 0 where
  pub end : State
  pub events : List Event
  pub coming : List Value
  pub along : HappenAlong d w events (record w { end = end; put = w.put ++ put; coming = coming })
  pub still : end.ended ≡ None → coming ≡ later
  pub like : IsLike end c

-- before, the units to come are these and the later ones
abbrev pub IsNext : Whole → List Value → List Value → Type 0
IsNext w took later = w.end.ended ≡ None → w.coming ≡ took ++ later

module _ (d : Direction) (w : Whole) (later : List Value) where
  -- nothing happens
  idle : (c : State) → IsLike w.end c → IsNext w [] later → HasCome d w [] later c
  idle c like next = record {
    end = w.end;
    events = [];
    coming = w.coming;
    along = ap (λ (l : List Value). record w { put = l }) (append-nil w.put);
    still = next;
    like = like;
  }

  -- nothing happens, since it is over
  rests_over : (c e : State) (put : List Value) → IsLike w.end c → is_some w.end.ended ≡ true → e ≡ c → put ≡ [] → HasCome d w put later e
  rests_over c e put like over same none =
      subst (HasCome d w put later) (sym same)
      (subst (λ (l : List Value). HasCome d w l later c) (sym none) (idle c like (λ lasts. over_not w.end over lasts)))

  -- one thing happens
  one : (f : State → State) → IsApart f → (event : Event) (put coming : List Value) (c : State) → w.end.ended ≡ None → IsLike w.end c →
      Happens d event w (record w { end = f w.end; put = w.put ++ put; coming = coming }) → coming ≡ later → HasCome d w put later (f c)
  one f apart event put coming c lasts like happens rest =
      let alike : bare (f w.end) ≡ bare (f c) = done_alike f apart w.end c (like.lasts lasts) in
      record {
        end = f w.end;
        events = event ∷ [];
        coming = coming;
        along = (record w { end = f w.end; put = w.put ++ put; coming = coming }, happens, refl);
        still = λ still. rest;
        like = record { over = ap (λ (t : State). is_some t.ended) (sym alike); lasts = λ still. alike };
      }

  -- a unit
  unit_by : (b : Bool) (v : Value) (c : State) → IsLike w.end c → IsNext w (v ∷ []) later → Fits v → is_some w.end.ended ≡ b →
      HasCome d w (put_for v c) later (react v c)
  unit_by true v c like next fits over =
      let over_too = like.over ∙ over in
      rests_over c (react v c) (put_for v c) like over (react_over v c over_too)
      (ap (λ (x : Outcome). x.put) (outcome_over v c over_too))
  unit_by false v c like next fits lasting =
      let lasts = none_of w.end.ended lasting in
      subst (λ (l : List Value). HasCome d w l later (react v c)) (put_alike v w.end c (like.lasts lasts))
      (one (react v) (unit_apart v fits) arrives (put_for v w.end) later c lasts like (v, next lasts, refl) refl)

  -- a call
  calls_so : (call : UserCall) (c : State) → IsLike w.end c → IsNext w [] later → w.end.ended ≡ None → MayCall call w.end →
      put_by call w.end ≡ put_by call c → HasCome d w (put_by call c) later (user_does call c)
  calls_so call c like next lasts may same =
      subst (λ (l : List Value). HasCome d w l later (user_does call c)) same
      (one (user_does call) (call_apart call) (calls call) (put_by call w.end) w.coming c lasts like (may, refl) (next lasts))

  sent_by : (b : Bool) (r : ℕ) (tsdus : List (List ℕ)) (c : State) → IsLike w.end c → IsNext w [] later →
      MayCall (sends_all r tsdus) w.end → is_some w.end.ended ≡ b → HasCome d w (put_together r tsdus c) later (sent_all r tsdus c)
  sent_by true r tsdus c like next short over =
      let over_too = like.over ∙ over in
      rests_over c (sent_all r tsdus c) (put_together r tsdus c) like over (idle_all r tsdus c over_too)
      (unlinked_put r tsdus c (no_link r c over_too))
  sent_by false r tsdus c like next short lasting =
      let lasts = none_of w.end.ended lasting in
      calls_so (sends_all r tsdus) c like next lasts short (together_alike r tsdus w.end c (like.lasts lasts))

  closed_by : (b : Bool) (r : ℕ) (c : State) → IsLike w.end c → IsNext w [] later → is_some w.end.ended ≡ b →
      HasCome d w (put_closing r 128 (open_link r c) c.class) later (closed_with r 128 c)
  closed_by true r c like next over =
      let over_too = like.over ∙ over in
      rests_over c (closed_with r 128 c) (put_closing r 128 (open_link r c) c.class) like over (idle_closed r 128 c over_too)
      (none_closing r 128 c over_too)
  closed_by false r c like next lasting =
      let lasts = none_of w.end.ended lasting in
      calls_so (closes r 128) c like next lasts tt (ap (put_by (closes r 128)) (like.lasts lasts))

  asked_so : (calling called : Option (List ℕ)) (c : State) → IsLike w.end c → IsNext w [] later → may_connect c ≡ None →
      HasCome d w (put_by (connects calling called) c) later (user_does (connects calling called) c)
  asked_so calling called c like next may =
      let lasting : is_some c.ended ≡ false = may_last c.is_caller (is_some c.ended) _ may in
      let lasts = none_of w.end.ended (sym like.over ∙ lasting) in
      let same : may_connect w.end ≡ may_connect c = ap may_connect (like.lasts lasts) in
      calls_so (connects calling called) c like next lasts (same ∙ may) (ap (put_by (connects calling called)) (like.lasts lasts))

  ends_by : (b : Bool) (reason : EndReason) (c : State) → IsLike w.end c → IsNext w [] later → is_some w.end.ended ≡ b →
      HasCome d w [] later (ends reason c)
  ends_by true reason c like next over =
      idle (ends reason c) (record { over = sym over; lasts = λ lasts. over_not w.end over lasts }) (λ lasts. over_not w.end over lasts)
  ends_by false reason c like next lasting =
      subst (HasCome d w [] later) (ended_so reason c (like.over ∙ lasting))
      (calls_so (breaks reason) c like next (none_of w.end.ended lasting) tt refl)

-- ---- one after the other

pub comes : (d : Direction) (a c : State) (took put : List Value) → Makes a took put c → (w : Whole) (later : List Value) →
    IsLike w.end a → IsNext w took later → HasCome d w put later c
comes d _ _ _ _ (doing.takes v c fits) w later like next = unit_by d w later (is_some w.end.ended) v c like next fits refl
comes d _ _ _ _ (doing.leaves units c over) w later like next = idle d w later c like (λ lasts. over_not w.end (sym like.over ∙ over) lasts)
comes d _ _ _ _ (doing.sends r tsdus c short) w later like next = sent_by d w later (is_some w.end.ended) r tsdus c like next short refl
comes d _ _ _ _ (doing.closes r c) w later like next = closed_by d w later (is_some w.end.ended) r c like next refl
comes d _ _ _ _ (doing.asks_for calling called c may) w later like next = asked_so d w later calling called c like next may
comes d _ _ _ _ (doing.ends_so reason c) w later like next = ends_by d w later (is_some w.end.ended) reason c like next refl
comes d _ _ _ _ (doing.hears events c) w later like next =
    idle d w later (record c { events = events }) (record { over = like.over; lasts = like.lasts }) next
comes d _ _ _ _ (doing.rests c) w later like next = idle d w later c like next
comes d _ _ _ _ (doing.and_then a b c took more put others first second) w later like next =
    let h = comes d a b took put first w (more ++ later) like (λ lasts. next lasts ∙ append_assoc took more later) in
    let mid : Whole = record w { end = h.end; put = w.put ++ put; coming = h.coming } in
    let k = comes d b c more others second mid later h.like h.still in
    let last : Whole = record w { end = k.end; put = (w.put ++ put) ++ others; coming = k.coming } in
    record {
      end = k.end;
      events = h.events ++ k.events;
      coming = k.coming;
      along = subst (λ (l : List Value). HappenAlong d w (h.events ++ k.events) (record w { end = k.end; put = l; coming = k.coming }))
          (append_assoc w.put put others) (along_join (Happens d) h.events k.events w mid last h.along k.along);
      still = k.still;
      like = k.like;
    }
