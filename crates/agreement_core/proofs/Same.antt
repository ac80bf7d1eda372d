-- States that are the same everywhere are one.
use Rattle.std.proofs.Common.{◌≡◌, sym, subst}
use Rattle.agreement_core.specs.State.{CellRules, AgreementState}
use Rattle.agreement_core.specs.Sound.{IsSound}
use Rattle.agreement_core.specs.Frame.{IsSame}
use Rattle.agreement_core.specs.History.{History, IsExact}

pub one_state : (w w' : AgreementState) → IsSame w w' → w' ≡ w
one_state w w' same = λ i. record {
  shared = record {
    cells = λ p. same.cells p i;
    clock = same.clock i;
    stamp = λ q. same.stamp q i;
    reply = λ q. same.reply q i;
    seen = λ p word. same.seen p word i;
  };
  section = λ d. same.section d i;
  used = λ d. same.used d i;
  live = λ d. same.live d i;
  over = λ d. same.over d i;
  run = λ r. same.run r i;
  finishes = λ r. same.finishes r i;
  finished = λ r n. same.finished r n i;
}

pub same_sound : (c : CellRules) (w w' : AgreementState) → IsSame w w' → IsSound c w → IsSound c w'
same_sound c w w' same old = subst (IsSound c) (sym (one_state w w' same)) old

pub same_exact : (w w' : AgreementState) (h : History) → IsSame w w' → IsExact w h → IsExact w' h
same_exact w w' h same old = subst (λ u. IsExact u h) (sym (one_state w w' same)) old
