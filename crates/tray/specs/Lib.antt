pub mod Tray
