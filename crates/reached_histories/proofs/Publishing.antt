-- A publication of the machine as a step of the joint states with the history.
use Rattle.std.proofs.Common.{◌≡◌, ℕ, false, List, refl, ap, subst, Option, Some}
use Rattle.std.proofs.lemmas.Option.{slice_get_within, get_or_from_slice_get}
use Rattle.std.proofs.lemmas.List.Elements.{All-get_or}
use Rattle.machine_states.specs.map_history.specs.declared.op.Request.{Request}
use Rattle.machine_states.specs.body_terms.specs.declared.thunk.Thunk.{Thunk}
use Rattle.still_reads.specs.agreement_core.specs.section_lines.specs.Line.{IsStamped}
use Rattle.machine_states.specs.body_terms.specs.Line.{line, micro_at}
use Rattle.machine_states.specs.table_words.specs.declared.layout.Layout.{Layout}
use Rattle.machine_states.specs.table_words.specs.declared.spot.Spot.{Spot}
use Rattle.machine_states.specs.table_words.specs.declared.access.Access.{Access}
use Rattle.machine_states.specs.structure_laws.specs.Meaning.{Meaning}
use Rattle.machine_states.specs.structure_laws.specs.Sections.{IsAllowed}
use Rattle.machine_states.specs.runner_parts.specs.declared.event.EventKind.TheVariants.{Hold}
use Rattle.machine_states.specs.runner_steps.specs.Asks.{asks}
use Rattle.still_reads.specs.agreement_core.specs.Events as agreement
use Rattle.machine_history.specs.history_core.specs.State.{HistoryState, is_replied}
use Rattle.machine_states.specs.Sight.{Sight}
use Rattle.machine_states.proofs.Sights.{unless_gone}
use Rattle.machine_facts.specs.machine_agreement.specs.machine_epochs.proofs.OutsideAsked as outside
use Rattle.machine_facts.specs.machine_agreement.specs.machine_scenes.specs.Shown.{rules_of}
use Rattle.machine_facts.specs.machine_agreement.specs.Chunks.{publication}
use Rattle.machine_facts.specs.machine_invariant.specs.After.{AreAllowed}
use Rattle.machine_facts.specs.machine_invariant.specs.Whole.{Beside, IsWhole}
use Rattle.machine_facts.specs.machine_invariant.proofs.Asked.{entered_at}
use Rattle.reached_histories.specs.Requests.{or_none, requests_of}
use Rattle.reached_histories.specs.Kept.{AreKept}
use Rattle.reached_histories.specs.Supplies.{IsDue}
use Rattle.reached_histories.specs.Publishing.{behind_read, IsPublication, PublicationsMayCome}
use Rattle.reached_histories.proofs.Supplying.{hold_outside, holds_due}

module _ (m : Meaning) (l : Layout) (rs : List Request) (allowed : AreAllowed rs) (g : Beside) (s : Sight) (w : HistoryState) (whole : IsWhole m l g s)
    (kept : AreKept s w) (r d : ℕ) (t : Thunk) (x : Spot × Access) (asked : asks m l rs r (Hold t d) (s.part r) ≡ Some x)
    (settled : is_replied (w.look r) ≡ false)
    (may : agreement.Enabled (rules_of m l) (agreement.after g.agreement (agreement.Read t.lock)) (publication m d t)) where
  asks_hold : outside.HoldAsked m l rs t d (s.part r) x
  asks_hold = outside.hold_asked m l rs r t d (s.part r) x (hold_outside m l rs r d t (s.part r) (s.part r).run x (unless_gone _ (s.part r).gone _ x asked).1)

  due : IsDue (requests_of m l rs) w r t.request
  due = holds_due m l rs allowed.in_order s w r d t x kept asked

  stamped : IsStamped (micro_at (line (m.body t)))
  stamped = may.2.line.stamped

  is_allowed : IsAllowed asks_hold.request.op
  is_allowed = subst (λ (q : Request). IsAllowed q.op) (get_or_from_slice_get rs t.request asks_hold.request asks_hold.request asks_hold.of_request)
      (All-get_or (λ (q : Request). IsAllowed q.op) rs t.request asks_hold.request (slice_get_within rs t.request asks_hold.request asks_hold.of_request) allowed.each)

  is_publication : IsPublication m l rs (behind_read m l rs g s w t.lock) r d t
  is_publication = record {
    request = asks_hold.request;
    asked = asks_hold.of_request;
    reply = stamped.reply;
    may = record {
      enabled = record {
        enabled = may;
        entered = entered_at m l g.epochs s whole.slots r asks_hold.entry asks_hold.entered;
        allowed = is_allowed;
        fits = asks_hold.serves;
        of_thunk = record { lock = refl; word = refl; request = refl; code = λ i. refl; slot = λ i. refl };
      };
      idle = due.idle;
      own = due.own;
      unknown = due.unknown;
      earlier = due.earlier;
      operation = ap (λ (o : Option Request). (or_none o).op) asks_hold.of_request;
      answers = (stamped.answer, stamped.answers);
      settled = settled;
    };
  }

pub publications_may_come : (m : Meaning) (l : Layout) (rs : List Request) → PublicationsMayCome m l rs
publications_may_come m l rs allowed g s w whole kept r d t x asked settled may =
    is_publication m l rs allowed g s w whole kept r d t x asked settled may
