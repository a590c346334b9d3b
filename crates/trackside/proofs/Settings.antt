-- One point laid, or one lamp lit, in the table of settings: of the positions and the lights only one changes. Assumes nothing.
use Rattle.std.proofs.Common.{◌≡◌, ℕ, Bool, List, map, get_or, set, refl}
use Rattle.std.proofs.lemmas.List.{map-set}
use Rattle.std.proofs.Math.Seq.{map-set_same}
use Rattle.network.specs.declared.track.Position.{Position}
use Rattle.network.specs.declared.track.Position.TheVariants.{Left}
use Rattle.trackside.specs.declared.answers.Lamp.{Lamp}
use Rattle.trackside.specs.declared.answers.Lamp.TheVariants.{Red}
use Rattle.trackside.specs.declared.plant.Setting.{Setting}
use Rattle.trackside.specs.Ground.{shows_green}

abbrev lies : Setting → Position
lies s = s.position

abbrev shows : Setting → Bool
shows s = shows_green s.lamp

-- a setting that was never told
abbrev untold : Setting
untold = record { position = Left; lamp = Red }

module _ (xs : List Setting) (b : ℕ) where
  pub laid_lies : (q : Position) → map lies (set xs b (record { position = q; lamp = (get_or xs b untold).lamp })) ≡ set (map lies xs) b q
  laid_lies q = map-set lies xs b (record { position = q; lamp = (get_or xs b untold).lamp })

  pub laid_shows : (q : Position) → map shows (set xs b (record { position = q; lamp = (get_or xs b untold).lamp })) ≡ map shows xs
  laid_shows q = map-set_same shows xs b (record { position = q; lamp = (get_or xs b untold).lamp }) untold refl

  pub lit_lies : (l : Lamp) → map lies (set xs b (record { position = (get_or xs b untold).position; lamp = l })) ≡ map lies xs
  lit_lies l = map-set_same lies xs b (record { position = (get_or xs b untold).position; lamp = l }) untold refl

  pub lit_shows : (l : Lamp) → map shows (set xs b (record { position = (get_or xs b untold).position; lamp = l })) ≡ set (map shows xs) b (shows_green l)
  lit_shows l = map-set shows xs b (record { position = (get_or xs b untold).position; lamp = l })
