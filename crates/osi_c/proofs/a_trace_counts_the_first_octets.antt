-- What a trace shows is counted of the first octets that passed. For `counted` of `traces`.
use Rattle.std.proofs.Common.{arith, ◌≡◌, ◌∙◌, ◌≤◌, ℕ, List, ◌++◌, length, take, sym, ap, subst}
use Rattle.std.proofs.lemmas.List.{length-append}
use Rattle.std.proofs.Math.Seq.{take-append_seam}
use Rattle.osi_listing.specs.SoFar.{IsListedSoFar}
use Rattle.osi_listing.specs.Traced.{IsListedInPart}
use Rattle.osi_listing.specs.declared.counting.Counts.{Counts}
use Rattle.osi_c.specs.Traced.{CountsFirst, counts_in}
use Rattle.osi_c.specs.declared.traces.OsiTally.{OsiTally}

-- so many octets of what passed, from the first
first_of : (passed took others : List ℕ) (many : ℕ) → passed ≡ took ++ others → many ≡ length took → take many passed ≡ took
first_of passed took others many split same =
    ap (λ (n : ℕ). take n passed) same ∙ ap (λ (l : List ℕ). take (length took) l) split ∙ take-append_seam took others

no_more : (passed took others : List ℕ) (many : ℕ) → passed ≡ took ++ others → many ≡ length took → many ≤ length passed
no_more passed took others many split same = grind (arith, length-append)

-- what is listed in part is counted so
pub counts_first : (passed given : List ℕ) (shown : OsiTally) (counts : Counts) → counts_in shown ≡ counts →
    IsListedInPart passed given shown.octets counts → CountsFirst passed shown
counts_first passed given shown counts same h = record {
  octets = no_more passed h.took h.others shown.octets h.passed h.many;
  listed = (
    h.lines,
    subst (λ (octets : List ℕ). IsListedSoFar octets h.lines (counts_in shown))
        (sym (first_of passed h.took h.others shown.octets h.passed h.many))
        (subst (λ (c : Counts). IsListedSoFar h.took h.lines c) (sym same) h.listed),
  );
}
