-- What a line does is a call or nothing, so that a day is a history. Assumes nothing.
use Rattle.std.proofs.Common.{◌≡◌, ℕ, List, [], ◌∷◌, ◌++◌, Some, None, Ok, Err, Option, Result, sym, refl, ap, ◌∙◌, subst, append_assoc}
use Rattle.std.specs.List.{flat_map as written}
use Rattle.std.proofs.lemmas.List.{flat_map_more, append-nil}
use Rattle.line.specs.declared.refusal.Full.{Full}
use Rattle.trackside.specs.declared.Look.{Ghosts}
use Rattle.yard.specs.declared.wish.Wish.{Wish}
use Rattle.book.specs.declared.refusal.Refusal.{Refusal}
use Rattle.commands.specs.declared.answer.Answer.{Answer}
use Rattle.commands.specs.declared.command.Command.{Command}
use Rattle.commands.specs.declared.command.Command.TheVariants as command
use Rattle.commands.specs.Answers.{answer_text}
use Rattle.commands.specs.Commands.{command_of}
use Rattle.interlocking.specs.declared.Interlocking.{Interlocking}
use Rattle.interlocking.specs.Calls.{service_of}
use Rattle.interlocking.specs.History.{History, called, idled}
use Rattle.interlocking.specs.Promises.{Event, Reserve, Lay, Form, Open, Watch, Cancel, Free, Performed}
use Rattle.interlocking.specs.Wishes.{JoinsIf}
use Rattle.desk.specs.Days.{Obeys, AnswersIf, Day, over, next, Played, Worked}

module _ {S : Type 0} (L : Ghosts S) (joins : S → Wish → Result Unit Full → S → Type 0) {start : Interlocking S} where
  one_more : {es : List Event} {x y : Interlocking S} → History L start es x → (e : Event) → Performed L x e y → Worked L joins start y
  one_more h e d = record { events = _; history = called h e d }

  wish_more : {es : List Event} {x y : Interlocking S} (w : Wish) (o : Result Unit Refusal) (service : Result Unit Refusal) → History L start es x → JoinsIf L joins service x w o y → Worked L joins start y
  wish_more w o (Ok u) h d = record { events = _; history = idled h (record { same_ground = d.same_ground; rest = d.rest }) }
  wish_more {es} w o (Err e) h d = record { events = es; history = subst (History L start es) (sym d.same) h }

  obeyed_more : {es : List Event} {x y : Interlocking S} (c : Command) (a : Answer) → History L start es x → Obeys L joins x c a y → Worked L joins start y
  obeyed_more (command.Reserve r) a h d = one_more h (Reserve r d.answer) (record { acts = []; chain = record { led = sym (ap (λ z. z.1.trackside) d.did) }; does = record { none = refl; is = d.did } })
  obeyed_more (command.Lay r) a h d = one_more h (Lay r d.answer) d.did
  obeyed_more (command.Form r) a h d = one_more h (Form r d.answer) (record { acts = []; chain = record { led = sym (ap (λ z. z.1.trackside) d.did) }; does = record { none = refl; is = d.did } })
  obeyed_more (command.Open r) a h d = one_more h (Open r d.answer) d.did
  obeyed_more (command.Cancel r) a h d = one_more h (Cancel r d.answer) d.did
  obeyed_more (command.Free r) a h d = one_more h (Free r d.answer) (record { acts = []; chain = record { led = sym (ap (λ z. z.1.trackside) d.did) }; does = record { none = refl; is = d.did } })
  obeyed_more {x} (command.Wish w) a h d = wish_more w d.answer (service_of x.unfit) h d.did
  obeyed_more command.Watch a h d = one_more h (Watch d.answer) d.did

  -- a line more keeps a history a history
  pub answered_more : {x y : Interlocking S} (c : Option Command) (a : Answer) → Worked L joins start x → AnswersIf L joins c x a y → Worked L joins start y
  answered_more None a w d = record { events = w.events; history = subst (History L start w.events) (sym d.same) w.history }
  answered_more (Some c) a w d = obeyed_more c a w.history d

module _ {S : Type 0} (L : Ghosts S) (joins : S → Wish → Result Unit Full → S → Type 0) (x : Interlocking S) (lines : List (List ℕ)) (before : List ℕ) where
  -- some lines were answered and led to y, and the others are left: however they are answered, the day is what was and what comes
  pub record SoFar (y : Interlocking S) (left : List (List ℕ)) (text : List ℕ) : Type 0 where
    pub done : List Answer
    pub is : text ≡ before ++ written answer_text done
    pub comes : (more : List Answer) (z : Interlocking S) → Day L joins y left more z → Day L joins x lines (done ++ more) z

  pub at_first : SoFar x lines before
  at_first = record { done = []; is = sym (append-nil before); comes = λ more z d. d }

  pub one_line : {y z : Interlocking S} {left : List (List ℕ)} {text : List ℕ} (line : List ℕ) (a : Answer) (later : List ℕ) → SoFar y (line ∷ left) text → AnswersIf L joins (command_of line) y a z → later ≡ text ++ answer_text a → SoFar z left later
  one_line line a later s h e = record {
    done = s.done ++ a ∷ [];
    is = e ∙ ap (λ t. t ++ answer_text a) s.is ∙ flat_map_more answer_text before s.done a;
    comes = λ more z d. subst (λ answers. Day L joins x lines answers z) (sym (append_assoc s.done (a ∷ []) more)) (s.comes (a ∷ more) z (next h d));
  }

  pub at_last : {y : Interlocking S} {text : List ℕ} → SoFar y [] text → Played L joins x lines before text y
  at_last {y} s = record {
    answers = s.done;
    day = subst (λ answers. Day L joins x lines answers y) (append-nil s.done) (s.comes [] y over);
    text = s.is;
  }
