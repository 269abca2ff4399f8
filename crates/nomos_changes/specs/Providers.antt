-- A process that provides otherwise.
use Rattle.nomos_machine.specs.declared.object.Process.{Process}
use Rattle.nomos_changes.specs.declared.sharing.Provider.{Provider}

-- at another mode, from another instruction on, under another name, and with another base
abbrev pub provides_as : Provider → Process → Process
provides_as provider p = record p {
  mode = provider.mode;
  code = provider.code;
  offers = provider.offers;
  base = provider.base;
}
