-- What holds of the nodes that a walk holds.
use Rattle.std.specs.Prelude.{Some}
use Rattle.std.proofs.Common.{◌≡◌, ℕ, inl, ⊎_elim, arith}
use Rattle.structure_laws.specs.table_words.specs.declared.layout.Layout.{Layout}
use Rattle.structure_laws.specs.Scene.{Readings, Scene}
use Rattle.structure_laws.specs.Cells.{IsSafe}
use Rattle.structure_laws.specs.Sound.{Sound}
use Rattle.bucket_laws.proofs.TableGives.{reached}
use Rattle.list_laws.specs.Landing.{HeldLaw}
use Rattle.list_laws.specs.Walk.{node_of}
use Rattle.list_laws.specs.Nodes.{is_link_place, bounds, walk_of, list}
use Rattle.list_laws.proofs.Collect.{past_level}
use Rattle.list_laws.proofs.Gives.{next_safe}
use Rattle.list_laws.proofs.WalkReads.{IsGiven, IsFrom, walk_reads}

module _ (layout : Layout) (s : Scene) (sound : Sound list layout s) (r : ℕ) (readings : Readings)
    (reader : s.reader r ≡ Some readings) where
  given_safe : (t : ℕ) → IsGiven readings t → IsSafe s t
  given_safe t gives = let by = reached is_link_place readings t gives in
      (sound.readers r readings reader).safe by.0 by.1 by.2 t by.3 by.4 by.5

  from_safe : (t : ℕ) → IsFrom readings t → IsSafe s t
  from_safe t from = ⊎_elim (λ fixed. inl (sound.fixed t fixed)) (given_safe t) from

pub held : (layout : Layout) → HeldLaw layout
held layout = record {
  leads = λ s sound kept t is. record {
    leads = kept.leads t is.once is.safe;
    next = λ u inner link. record {
      once = (kept.trail t u is.once is.safe inner link).once_linked;
      safe = next_safe layout s sound kept t u is.safe link;
    };
    rises = λ u some inner link. ⊎_elim (λ less. omega (arith, less)) (λ both. let same = both.0 in omega (arith, same))
        ((kept.trail t u is.once is.safe inner link).order some);
    unmarked = kept.unmarked t is.once is.safe;
  };
  walks = λ s sound kept r readings op reader low.
      let w = walk_of layout op readings in
      let is = kept.walks r readings op reader low in
      let reads = walk_reads readings (bounds layout) op in
      record {
        from = record { once = is.from_once; safe = from_safe layout s sound r readings reader w.from reads.from };
        node = λ past. record {
          once = is.node_once past;
          safe = given_safe layout s sound r readings reader (node_of w) (reads.node (past_level w.stage past));
        };
        other = is.node_other;
      };
}
