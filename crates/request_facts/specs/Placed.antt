-- A request in the one history of a state.
use Rattle.std.specs.Prelude.{◌≡◌, ℕ, List}
use Rattle.machine_states.specs.map_history.specs.declared.op.Request.{Request}
use Rattle.machine_states.specs.map_history.specs.declared.reply.Reply.{Reply}
use Rattle.machine_states.specs.map_history.specs.Words.{word_of, IsReply}
use Rattle.machine_states.specs.table_words.specs.declared.layout.Layout.{Layout}
use Rattle.machine_states.specs.table_words.specs.declared.spot.Spot.TheVariants.{Stamp, Reply as ReplyWord}
use Rattle.machine_states.specs.structure_laws.specs.Meaning.{Meaning}
use Rattle.machine_states.specs.Sight.{Sight}
use Rattle.reached_histories.specs.History.{IsPlaced}
use Rattle.reached_histories.specs.Laws.{HasHistory}

module _ (m : Meaning) (l : Layout) (requests : List Request) (s : Sight) where
  -- the request stands once in the state's one legal history, with this stamp and this reply, which its words hold
  pub record IsServedAs (number stamp : ℕ) (reply : Reply) : Type 0 where
    pub history : HasHistory m l requests s
    pub placed : IsPlaced m l requests history.beside s history.state.history number
    pub is_reply : IsReply reply
    pub of_reply : placed.entry.reply ≡ reply
    pub stamp_word : s.word (Stamp number) ≡ stamp
    pub reply_word : s.word (ReplyWord number) ≡ word_of reply

  -- nobody has served it
  pub record IsUnserved (number : ℕ) : Type 0 where
    pub stamp : s.word (Stamp number) ≡ 0
    pub reply : s.word (ReplyWord number) ≡ 0
