use Rattle.osi_between.proofs.way.an_end_holds_no_fault.{all_coming, no_fault, starved, acts_or_starves}
use Rattle.osi_between.proofs.laws.what_an_end_holds.Goals as goal

pub returns : goal.returns
returns c = record {
  sound = λ terms end both b at fault a alive. no_fault terms end both b a alive at fault;
  starved = λ terms end both b packet octets behind new a alive. starved terms end both b a alive packet octets behind new;
  acts = λ terms end both b packet octets behind new a alive. acts_or_starves terms end both b a alive packet octets behind new;
  coming = all_coming;
}
