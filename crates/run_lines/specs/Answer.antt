-- The answer to a line.
use Rattle.std.specs.Prelude.{◌≡◌, ℕ, List, [], ◌∷◌, ◌++◌, Option, Some, None, codes}
use Rattle.std.specs.List.{flat_map}
use Rattle.trade_base.specs.declared.refusal.Refusal.{Refusal}
use Rattle.trade_base.specs.declared.refusal.Refusal.TheVariants.{BadLine, UnknownComponent}
use Rattle.trade_base.specs.Refusal.{refusal_name}
use Rattle.own_model.specs.Reply.{LogLine, Reply, log_text, reply_text}
use Rattle.own_model.specs.Reply.Reply.{Refused}
use Rattle.own_model.specs.Running.{running_step}
use Rattle.own_model.specs.LinesOfName.{said_by}
use Rattle.own_model.specs.Transcript.{Heard, entry_at, heard}
use Rattle.own_model.specs.Transcript.Heard.{NoCall, Stranger, Caller}
use Rattle.own_model.specs.World.{World}
use Rattle.run_devices.specs.RunOutput.{line_with}
use Rattle.run_lines.specs.declared.line_answer.LineAnswer.{LineAnswer}

-- the name under which a classified line is answered
abbrev pub answered_name : World → Heard → List ℕ
answered_name world NoCall = codes "?"
answered_name world (Stranger name) = name
answered_name world (Caller made) = (entry_at world.entries made.component).name

-- the reply to it
abbrev pub answered_reply : World → Heard → Reply
answered_reply world NoCall = Refused BadLine
answered_reply world (Stranger name) = Refused UnknownComponent
answered_reply world (Caller made) = (running_step world.entries world.states made).reply

-- the log lines that it finishes
abbrev pub finished_lines : World → Heard → List LogLine
finished_lines world NoCall = []
finished_lines world (Stranger name) = []
finished_lines world (Caller made) = (running_step world.entries world.states made).lines

-- a classified line has this answer
pub record IsAnswer (world : World) (what : Heard) (answer : LineAnswer) : Type 0 where
  pub name : answer.name.now ≡ answered_name world what
  pub reply : answer.reply.now ≡ reply_text (answered_reply world what)
  pub lines : answer.lines.now ≡ flat_map log_text (finished_lines world what)

-- a refusal under a name, and no log line
pub record IsRefusal (name : List ℕ) (refusal : Refusal) (answer : LineAnswer) : Type 0 where
  pub named : answer.name.now ≡ name
  pub reply : answer.reply.now ≡ refusal_name refusal
  pub lines : answer.lines.now ≡ []

-- a line is answered as it is classified, or it is skipped if it is none of the name's
abbrev pub AnswersLine : Option (List ℕ) → World → List ℕ → Option LineAnswer → Type 0
AnswersLine only world line (Some answer) =
    (said_by only (line ∷ []) ≡ line ∷ []) × IsAnswer world (heard world.entries line) answer
AnswersLine only world line None = said_by only (line ∷ []) ≡ []

-- the text of an answer: its log lines, and then the name and the reply
abbrev pub answer_text : Option LineAnswer → List ℕ
answer_text (Some answer) = answer.lines.now ++ line_with answer.name.now answer.reply.now
answer_text None = []
