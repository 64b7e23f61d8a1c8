-- A session of an end is not to blame for what a judge has joined of its connection.
-- For the law on a connection of an end and a judge.
use Rattle.osi_blameless.proofs.Vocabulary.{[], ap, append_assoc, Bool, false, length, List, map, refl, subst, sym, take, true, ℕ, ◌++◌}
use Rattle.osi_blameless.proofs.Vocabulary.{◌+◌, ◌∙◌, ◌∷◌, ◌≡◌, ◌≤◌, flat_map-append, append-nil, take-append-drop, AllByRecursion, Given}
use Rattle.osi_blameless.proofs.Vocabulary.{unit_of, give_out, given_parts, hand_in, hand_out, Move, parts_in, parts_out, tsdus_in}
use Rattle.osi_blameless.proofs.Vocabulary.{tsdus_out, unit_parts, Part, tsdus_after, Listener, Seen, End, AsSent, front_told, first_asked}
use Rattle.osi_blameless.proofs.Vocabulary.{AllInside, AsParts, front_inside, honest_inside, CalledLaw, CallerLaw, other, IsExplained}
use Rattle.osi_blameless.proofs.Vocabulary.{IsFound, selects_outside, IsHonest, IsSentFrom, broke_session, begin_of, Direction}
use Rattle.osi_blameless.proofs.Vocabulary.{Left as left, Right as right, none_said, out_more, said_more, IsSaid, nothing, shown_said}
use Rattle.osi_blameless.proofs.Vocabulary.{something, units_came, opens_so, history_runs, Deeds, Gone, no_deeds, said_in, Speaks}
use Rattle.osi_blameless.proofs.Vocabulary.{units_given, is_gone, closed, never, Shows, octets_said, IsToBlame, Joined, spoken, heard, told}
use Rattle.osi_blameless.proofs.Vocabulary.{AreAfter, before_of, calls_from, IsShownOf, left_over, parts_of, take_in, arith, awaited}
use Rattle.osi_blameless.proofs.Vocabulary.{unknown, Said, told_of, over}
use Rattle.osi_side.specs.Explaining.{Told}
use Rattle.osi_side.specs.Running as running
use Rattle.osi_side.specs.declared.findings.Finding.{Finding}
use Rattle.osi_blameless.specs.ends.Courses.{Course}
use Rattle.osi_blameless.specs.ends.Courses.Course.{is_open}
use Rattle.osi_blameless.proofs.ends.courses.what_was_said_is_explained.{units_put}
use Rattle.osi_judge.specs.Lines as lines

-- what the laws of messages and of sessions state
pub record SessionLaws : Type 0 where
  pub sent : AsSent
  pub parts : AsParts
  pub caller : CallerLaw
  pub called : CalledLaw

-- ---- what was said is a run of a session, also if more was heard than it took

-- the session took the first of these
spoken_by : (is_caller : Bool) (taken : List Move) (is_closed : Bool) (session : Listener) (us rest : List (List ℕ)) →
    Speaks is_caller taken is_closed session → us ≡ tsdus_out taken ++ rest → IsSaid is_caller us (map told_of (said_in 0 taken))
spoken_by is_caller taken is_closed session us rest s is =
    something s.begin s.new (record {
      later = [];
      runs = history_runs s.begin us (tsdus_out taken) (said_in 0 taken) is_closed session s.history rest is []
          (running.rests is_closed session (length (tsdus_out taken)));
    })

module _ (is_caller : Bool) (r : ℕ) (deeds : Deeds) (e : End) (us rest : List (List ℕ)) (is : us ≡ tsdus_out deeds.calls ++ rest) where
  abbrev Said_of : Type 0
  Said_of = IsSaid is_caller us (map told_of (said_in 0 deeds.calls))

  unsaid_yet : deeds ≡ no_deeds → Said_of
  unsaid_yet none = nothing (ap (λ (x : Deeds). map told_of (said_in 0 x.calls)) none)

  gone_said : Gone is_caller r deeds e → Said_of
  gone_said (closed peer calls is_closed session s given shut) = spoken_by is_caller deeds.calls is_closed session us rest s is
  gone_said (never none ended) = unsaid_yet none
  gone_said (over peer calls taken untaken is_closed session s parts into ended) =
      let said : said_in 0 deeds.calls ≡ said_in 0 taken =
      ap (said_in 0) parts ∙ said_more 0 taken untaken
      ∙ ap (λ (l : List Said). said_in 0 taken ++ l) (none_said (0 + length (tsdus_out taken)) untaken into)
      ∙ append-nil (said_in 0 taken) in
      subst (λ (l : List Said). IsSaid is_caller us (map told_of l)) (sym said)
      (spoken_by is_caller taken is_closed session us (tsdus_out untaken ++ rest) s
      (is ∙ ap (λ (l : List (List ℕ)). l ++ rest) (ap tsdus_out parts ∙ out_more taken untaken)
      ∙ append_assoc (tsdus_out taken) (tsdus_out untaken) rest))

  pub heard_said : Course is_caller r deeds e → Said_of
  heard_said (unknown none side free live kept) = unsaid_yet none
  heard_said (awaited none c terms side lasts given here kept) = unsaid_yet none
  heard_said (is_open given o) = spoken_by is_caller deeds.calls false o.session us rest o.speaks is
  heard_said (is_gone g) = gone_said g

-- ---- TSDUs and parts

pub tsdus_more : (begun : List ℕ) (some more : List Part) →
    tsdus_after begun (some ++ more) ≡ tsdus_after begun some ++ tsdus_after (left_over begun some) more
tsdus_more begun [] more = refl
tsdus_more begun ((false, octets) ∷ some) more = tsdus_more (begun ++ octets) some more
tsdus_more begun ((true, octets) ∷ some) more = ap (λ (l : List (List ℕ)). (begun ++ octets) ∷ l) (tsdus_more [] some more)

parts_given : (peer : ℕ) (given : Given) → unit_parts (unit_of peer given) ≡ given_parts given
parts_given peer given = grind arith

pub parts_put : (peer : ℕ) (moves : List Move) → parts_of (map (unit_of peer) (units_given moves)) ≡ parts_out moves
parts_put peer [] = refl
parts_put peer (give_out given ∷ moves) = λ i. parts_given peer given i ++ parts_put peer moves i
parts_put peer (hand_in tsdu ∷ moves) = parts_put peer moves
parts_put peer (take_in unit ∷ moves) = parts_put peer moves
parts_put peer (hand_out tsdu ∷ moves) = parts_put peer moves

pub octets_in : (n : ℕ) (moves : List Move) → octets_said (said_in n moves) ≡ tsdus_in moves
octets_in n [] = refl
octets_in n (hand_in tsdu ∷ moves) = ap (λ (l : List (List ℕ)). tsdu ∷ l) (octets_in n moves)
octets_in n (hand_out tsdu ∷ moves) = octets_in (n + 1) moves
octets_in n (give_out given ∷ moves) = octets_in n moves
octets_in n (take_in unit ∷ moves) = octets_in n moves

-- ---- what the judge has joined is shown of it

joined_shows : (bound : ℕ) (said : List lines.Said) (last : List ℕ) (all : List Said) (more : List (List ℕ)) →
    map lines.octets_of said ++ more ≡ octets_said all → AreAfter (map before_of said ++ last) all →
    AllByRecursion (λ n. n ≤ bound) (map before_of said ++ last) → Shows bound (map lines.told_of said) (map told_of all)
joined_shows bound [] last all more is a b = tt
joined_shows bound (t ∷ said) last [] more is a b = absurd a
joined_shows bound (t ∷ said) last (s ∷ all) more is a b =
    let same : t.octets ≡ s.octets = cc in
    let rest : map lines.octets_of said ++ more ≡ octets_said all = cc in
    (same, a.0, b.0, joined_shows bound said last all more rest a.1 b.1)

module _ (d : Direction) (r : ℕ) (deeds : Deeds) (e : End) (j : Joined) (course : Course (calls_from d) r deeds e)
    (shown : IsShownOf d r deeds j) where
  -- all that was said comes after what is joined
  own_more : (more : List (List ℕ)) × (heard (spoken d j) ++ more ≡ octets_said (said_in 0 deeds.calls))
  own_more =
      let put = units_put (calls_from d) r deeds e course in
      let unsent = put.0 in
      let parts : parts_out deeds.calls ≡ parts_of shown.passed ++ parts_of shown.waiting =
      grind (arith, parts_put put.1 deeds.calls, flat_map-append unit_parts shown.passed shown.waiting) in
      grind (arith, append_assoc, tsdus_more, octets_in)

  -- what was taken comes first of what is heard
  other_more : (more : List (List ℕ)) × (heard (spoken (other d) j) ≡ tsdus_out deeds.calls ++ more)
  other_more =
      let more = tsdus_after (left_over [] (parts_in deeds.calls)) shown.later in (
        more,
        grind (arith, tsdus_more [] (parts_in deeds.calls) shown.later, units_came (calls_from d) r deeds e course),
      )

  pub joined_said : IsSaid (calls_from d) (heard (spoken (other d) j)) (told (spoken d j))
  joined_said =
      let us = heard (spoken (other d) j) in
      let own = own_more in
      let rest = other_more in
      search (arith, shown_said, joined_shows, heard_said (calls_from d) r deeds e us rest.0 rest.1 course)

-- ---- what was said by a session of an end is not blamed

pub not_both : (b : Bool) → b ≡ true → b ≡ false → ⊥
not_both b h k = grind arith

front_outside : (us : List (List ℕ)) (told : List Told) (i : ℕ) → AllInside (first_asked us) told
    → selects_outside us (take i told) ≡ true → ⊥
front_outside us told i a s = grind (arith, not_both, front_inside, first_asked, take-append-drop)

not_broken : (begin : Seen) (us : List (List ℕ)) (told : List Told) (i : ℕ) → IsExplained begin us told →
    (IsExplained begin us (take (i + 1) told) → ⊥) → ⊥
not_broken begin us told i e n =
    n (grind (arith, front_told, take-append-drop (i + 1) told))

no_break : (begin : Seen) (us : List (List ℕ)) (told : List Told) (finding : Finding) → IsExplained begin us told →
    AllInside (first_asked us) told → IsFound begin us told finding → broke_session finding ≡ false
no_break begin us told h e a f = grind (arith, not_broken, front_outside)

pub none_broken : (begin : Seen) (us : List (List ℕ)) (told : List Told) (finding : Finding) → told ≡ [] → IsFound begin us told finding →
    broke_session finding ≡ false
none_broken begin us told finding none f = grind (arith, no_break)

module _ (known : AsSent) (parts : AsParts) (caller : CallerLaw) (called : CalledLaw) where
  honest_explained : (d : Direction) (us : List (List ℕ)) (told : List Told) → IsHonest d us told → IsExplained (begin_of d) us told
  honest_explained left us told h = caller h.0 us told h.1 h.2
  honest_explained right us told h = called us told h

  honest_kept : (d : Direction) (us : List (List ℕ)) (told : List Told) (finding : Finding) → IsHonest d us told →
      IsFound (begin_of d) us told finding → broke_session finding ≡ false
  honest_kept d us told finding h f = grind (arith, no_break, honest_explained, honest_inside)

  said_kept : (d : Direction) (us : List (List ℕ)) (told : List Told) (finding : Finding) → IsSaid (calls_from d) us told →
      IsFound (begin_of d) us told finding → broke_session finding ≡ false
  said_kept d us told finding (nothing none) f = none_broken (begin_of d) us told finding none f
  said_kept left us told finding (something begin (c, terms, is) sent) f =
      let o = opens_so c terms in
      honest_kept left us told finding
      (o.opening, o.accepted, subst (λ (l : Listener). IsSentFrom l us told) (is ∙ sym o.begins) sent) f
  said_kept right us told finding (something begin is_new sent) f =
      honest_kept right us told finding (subst (λ (l : Listener). IsSentFrom l us told) is_new sent) f

  pub not_to_blame : (d : Direction) (r : ℕ) (deeds : Deeds) (e : End) (j : Joined) → Course (calls_from d) r deeds e →
      IsShownOf d r deeds j → IsToBlame d j → ⊥
  not_to_blame d r deeds e j course shown blame =
      not_both (broke_session blame.finding) blame.broke
      (search (arith, said_kept, joined_said))
