mod OneRecording
mod Steps
