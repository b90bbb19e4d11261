mod Events
mod Told
mod Tables
